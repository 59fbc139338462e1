-- Two tables 2 of a file of two bytes, `m` and `f`. Both have a function and a memory m.f, and pass 15; but a type 5 and a memory of one or
-- two pages in the one are a type 9 and a memory of seven pages or more in the other. Assumes nothing.
use Rattle.std.specs.Prelude.{◌≡◌, List, [], ◌∷◌, ℕ}
use Rattle.blind.specs.Claims.{Unseen, Answers}

abbrev pub names : List ℕ
names = 109 ∷ 102 ∷ []

abbrev pub fives : List ℕ
fives =
    0 ∷ 1 ∷ 1 ∷ 1 ∷ 0 ∷ 5 ∷ 0 ∷ 0 ∷ 0 ∷ 0 ∷ 0 ∷ 1
    ∷ 0 ∷ 1 ∷ 1 ∷ 1 ∷ 2 ∷ 0 ∷ 0 ∷ 1 ∷ 1 ∷ 2 ∷ 0 ∷ 28 ∷ []

abbrev pub nines : List ℕ
nines =
    0 ∷ 1 ∷ 1 ∷ 1 ∷ 0 ∷ 9 ∷ 0 ∷ 0 ∷ 0 ∷ 0 ∷ 0 ∷ 1
    ∷ 0 ∷ 1 ∷ 1 ∷ 1 ∷ 2 ∷ 0 ∷ 0 ∷ 0 ∷ 7 ∷ 0 ∷ 0 ∷ 12 ∷ []

pub record Example : Type 0 where
  pub differ : fives ≡ nines → ⊥
  pub unseen : Unseen names fives nines 2
  pub same : Answers names fives nines 2
