-- Ranges of numbers as data, as the Unicode Standard prints them: XX..YY with both ends in it. Assumes nothing.
use Rattle.std.specs.Prelude.{Bool, false, true, List, [], ◌∷◌, ℕ, suc, leb}
use Rattle.refusal.specs.Pick.{pick, both, within}

infixl 70 ◌to◌
pub data Range : Type 0 where
  ◌to◌ : ℕ → ℕ → Range

abbrev pub in_range : Range → ℕ → Bool
in_range (lo to hi) x = within lo hi x

-- x is in one of the ranges
unfoldable pub in_some : List Range → ℕ → Bool
in_some [] x = false
in_some (r ∷ rs) x = pick (in_range r x) true (in_some rs x)

-- the ranges ascend and lie apart, all of them from `low` on
unfoldable pub ascending : ℕ → List Range → Bool
ascending low [] = true
ascending low (lo to hi ∷ rs) = both (leb low lo) (both (leb lo hi) (ascending (suc hi) rs))
