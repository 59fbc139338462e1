-- For the definitions: how far whole steps go into a list; Claims says it without this text (`ScanUnfolds`). Assumes nothing.
use Rattle.std.specs.Prelude.{List, [], ◌∷◌, ℕ, zero, suc}

-- `f s` is how many elements the step at the front of s takes, 0: no step.
-- `scan f k s`: k elements are left of a step under way; then steps from there, to the first place with none.
-- The answer is the number of elements passed.
unfoldable pub scan : (List ℕ → ℕ) → ℕ → List ℕ → ℕ
scan f zero [] = zero
scan f (suc k) [] = zero
scan f (suc k) (x ∷ s) = suc (scan f k s)
scan f zero (x ∷ s) = elim (f (x ∷ s)) [ zero ↦ zero | suc k ↦ suc (scan f k s) ]
