-- For the definitions: a reader that goes over a list in steps, with a state, to an answer; Claims says what it does (`WalkUnfolds`).
-- Assumes nothing.
use Rattle.std.specs.Prelude.{List, [], ◌∷◌, ℕ, zero, suc}

-- what a step does: it ends the whole with an answer, or it goes on with a state, past one element and so many more
pub data Turn (S R : Type 0) : Type 0 where
  stop : R → Turn S R
  go : S → ℕ → Turn S R

module _ {S R : Type 0} where
  -- `f st at s` is the step in state st at place `at`, where s is what is left; `done st at` is the answer at the end.
  -- `walk f done st at k s`: k elements are left of a step under way.
  unfoldable pub walk : (S → ℕ → List ℕ → Turn S R) → (S → ℕ → R) → S → ℕ → ℕ → List ℕ → R
  walk f done st at k [] = done st at
  walk f done st at zero (x ∷ s) = elim (f st at (x ∷ s)) [ stop r ↦ r | go st' k ↦ walk f done st' (suc at) k s ]
  walk f done st at (suc k) (x ∷ s) = walk f done st (suc at) k s
