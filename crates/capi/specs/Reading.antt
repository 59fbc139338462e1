-- docs/RULES.md, "Numbers and names": what a read answers over the C interface; refused, all but number and place is zero.
-- Assumes nothing.
use Rattle.std.specs.Prelude.{ℤ, pos}
use Rattle.refusal.specs.Said.{Said, accepted, refused, number_at, Got, got}
use Rattle.capi.specs.declared.cursor.Signed.{Signed}

abbrev pub signed_told : Said (Got ℤ) → Signed
signed_told (accepted (got v next)) = record { number = 0; place = 0; value = v; next = next }
signed_told (refused n p) = record { number = n; place = number_at p; value = pos 0; next = 0 }
