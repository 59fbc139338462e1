-- docs/RULES.md, "Numbers and names": what a read tells; refused, all but number and place is zero. Assumes nothing.
use Rattle.std.specs.Prelude.{ℕ}
use Rattle.refusal.specs.Said.{Said, accepted, refused, number_at, Got, got}
use Rattle.refusal.specs.declared.Part.{Part}
use Rattle.told.specs.declared.cursor.Unsigned.{Unsigned}
use Rattle.told.specs.declared.cursor.Range.{Range}

abbrev pub unsigned_told : Said (Got ℕ) → Unsigned
unsigned_told (accepted (got v next)) = record { number = 0; place = 0; value = v; next = next }
unsigned_told (refused n p) = record { number = n; place = number_at p; value = 0; next = 0 }

abbrev pub range_told : Said (Got Part) → Range
range_told (accepted (got x next)) = record { number = 0; place = 0; from = x.from; len = x.len; next = next }
range_told (refused n p) = record { number = n; place = number_at p; from = 0; len = 0; next = 0 }
