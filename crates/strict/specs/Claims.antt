-- docs/PROMISES.md, "strict, clean": what is claimed of a strict read beside the plain one. Assumes nothing.
use Rattle.std.specs.Prelude.{ℕ, ◌≤◌, ◌≡◌, Bool, true, false, ◌⊎◌, List, [], ◌∷◌, eqb}
use Rattle.refusal.specs.Pick.{pick}
use Rattle.refusal.specs.Said.{accepted, refused, got, spot, Place}
use Rattle.wasm.specs.Module.{Parsed, Sizes, module_at}
use Rattle.strict.specs.declared.again.Marks.{Marks}
use Rattle.strict.specs.Again.{marks_at}
use Rattle.conform.specs.Sound.{Larger, limits}
use Rattle.strict.specs.Rules.{broken, strict_at, tested_at}

-- the file is read plainly, with rows m, and the second walk finds k
pub record Walked (b : List ℕ) (z : Sizes) (m : Parsed) (k : Marks) : Type 0 where
  pub end : ℕ
  pub plain-is : module_at b z ≡ accepted m
  pub marks-are : marks_at b ≡ accepted (got k end)

-- where the plain read accepts, the second walk does
abbrev pub WalksAgain : Type 0
WalksAgain = (b : List ℕ) (z : Sizes) (m : Parsed) → module_at b z ≡ accepted m → (k : Marks) × Walked b z m k

-- what is read strictly is what is read plainly, and no rule is broken
abbrev pub StrictPlain : Type 0
StrictPlain = (b : List ℕ) (z : Sizes) (m : Parsed) → strict_at b z ≡ accepted m → module_at b z ≡ accepted m

abbrev pub StrictClean : Type 0
StrictClean =
    (b : List ℕ) (z : Sizes) (m : Parsed) → strict_at b z ≡ accepted m → (k : Marks) × Walked b z m k × (broken b m k ≡ 0)

-- what is read plainly, and breaks no rule, is read strictly
abbrev pub CleanStrict : Type 0
CleanStrict = (b : List ℕ) (z : Sizes) (m : Parsed) (k : Marks) → Walked b z m k → broken b m k ≡ 0 → strict_at b z ≡ accepted m

-- and what breaks one is 20 at the lowest
abbrev pub BrokenRefused : Type 0
BrokenRefused =
    (b : List ℕ) (z : Sizes) (m : Parsed) (k : Marks) → Walked b z m k → (broken b m k ≡ 0 → ⊥)
    → strict_at b z ≡ refused 20 (spot (broken b m k))

-- a refusal of the rules: 20 at the lowest rule that is broken, 1 to 8, of a file that is read plainly
pub record Ruled (b : List ℕ) (z : Sizes) (n : ℕ) (p : Place) : Type 0 where
  pub rows : Parsed
  pub marks : Marks
  pub walked : Walked b z rows marks
  pub number_is : n ≡ 20
  pub place_is : p ≡ spot (broken b rows marks)
  pub rule : (1 ≤ broken b rows marks) × (broken b rows marks ≤ 8)

-- a refusal is the plain one, or one of the rules
abbrev pub StrictRefuses : Type 0
StrictRefuses = (b : List ℕ) (z : Sizes) (n : ℕ) (p : Place) → strict_at b z ≡ refused n p → (module_at b z ≡ refused n p) ⊎ Ruled b z n p

-- ---- room: larger tables give the same, and what some tables accept, tables at the limits do
abbrev pub StrictLarger : Type 0
StrictLarger = (b : List ℕ) (z w : Sizes) (m : Parsed) → Larger z w → strict_at b z ≡ accepted m → strict_at b w ≡ accepted m

abbrev pub StrictRefusedSame : Type 0
StrictRefusedSame =
    (b : List ℕ) (z w : Sizes) (n : ℕ) (p : Place) → Larger z w → (n ≡ 13 → ⊥) → strict_at b z ≡ refused n p → strict_at b w ≡ refused n p

abbrev pub StrictLimits : Type 0
StrictLimits = (b : List ℕ) (z : Sizes) (m : Parsed) → strict_at b z ≡ accepted m → strict_at b limits ≡ accepted m

-- and the verdict is that of a read with some tables, whose rows are the plain reader's
abbrev pub TestedRead : Type 0
TestedRead =
    (b : List ℕ) → tested_at b limits ≡ accepted tt → (m : Parsed) × (strict_at b limits ≡ accepted m) × (module_at b limits ≡ accepted m)

-- a plain read is refused with these numbers alone: never with 20, which is the rules', and never with 3
abbrev pub plain_refusals : List ℕ
plain_refusals = 1 ∷ 2 ∷ 4 ∷ 5 ∷ 13 ∷ 14 ∷ 17 ∷ 18 ∷ 19 ∷ []

abbrev pub one_of : ℕ → List ℕ → Bool
one_of n [] = false
one_of n (m ∷ l) = pick (eqb n m) true (one_of n l)

abbrev pub PlainNumbers : Type 0
PlainNumbers = (b : List ℕ) (z : Sizes) (n : ℕ) (p : Place) → module_at b z ≡ refused n p → one_of n plain_refusals ≡ true
