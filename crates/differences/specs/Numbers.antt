-- For the code: the rows of two modules numbered one after another, as it goes through them. Assumes nothing.
use Rattle.std.specs.Prelude.{Bool, false, ◌||◌, ℕ, zero, suc, ◌+◌, ◌-◌, ltb}
use Rattle.refusal.specs.Pick.{pick}

-- the first nb numbers are the baseline's rows, the next ones the candidate's
unfoldable pub sided : {A : Type 0} → ℕ → (ℕ → A) → (ℕ → A) → ℕ → A
sided nb f g i = pick (ltb i nb) (f i) (g (i - nb))

-- one of k rows from j on passes
unfoldable pub some_from : (ℕ → Bool) → ℕ → ℕ → Bool
some_from p j zero = false
some_from p j (suc k) = p j || some_from p (j + 1) k
