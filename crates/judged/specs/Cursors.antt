-- leb.rs: what the cursor's functions answer, in structs of numbers. Assumes nothing.
use Rattle.std.specs.Prelude.{ℕ, Bool}
use Rattle.refusal.specs.Said.{Said, accepted, refused, number_at, Got, got}
use Rattle.judged.specs.declared.cursors.SkipTold.{SkipTold}
use Rattle.judged.specs.declared.cursors.LeftTold.{LeftTold}

abbrev pub skip_told : Said (Got (Unit {0})) → SkipTold
skip_told (accepted (got u next)) = record { number = 0; place = 0; next = next }
skip_told (refused n p) = record { number = n; place = number_at p; next = 0 }

abbrev pub left_told : ℕ → ℕ → Bool → LeftTold
left_told at left none = record { at = at; left = left; none = none }
