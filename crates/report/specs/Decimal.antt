-- A number in decimal: its digits, the most significant first, and no zero in front. Assumes nothing.
use Rattle.std.specs.Prelude.{List, [], ◌∷◌, ◌++◌, ℕ, zero, suc, ◌+◌, ◌/◌, ◌%◌, ltb}
use Rattle.refusal.specs.Pick.{pick}

-- with at most so many digits before the last
unfoldable pub digits : ℕ → ℕ → List ℕ
digits zero n = (48 + n % 10) ∷ []
digits (suc k) n = pick (ltb n 10) ((48 + n) ∷ []) (digits k (n / 10) ++ ((48 + n % 10) ∷ []))

-- a number has no more digits than it counts
unfoldable pub decimal_of : ℕ → List ℕ
decimal_of n = digits n n
