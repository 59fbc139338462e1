-- docs/RULES.md, "Tables", sorted lists: the sorted list of a list, without ties. Assumes nothing.
use Rattle.std.specs.Prelude.{◌≡◌, Bool, ◌⊎◌, ℕ, zero, suc, get_or}
use mathlib.Core.List.{List, [], ◌∷◌, map, Memᴰ}
use Rattle.refusal.specs.Pick.{pick}
use Rattle.std.specs.declared.cmp.Ordering.{Ordering}
use Rattle.std.specs.declared.cmp.Ordering.TheVariants.{Less, Equal, Greater}

-- x stands in l
infix 40 ◌∈◌
abbrev pub ◌∈◌ : {A : Type 0} → A → List A → Type 0
◌∈◌ = Memᴰ

module _ {A : Type 0} where
  -- where x goes beside y, with r the list in which it goes further on: before y, in place of y, or after y
  abbrev pub place : Ordering → A → A → List A → List A → List A
  place Less x y l r = x ∷ y ∷ l
  place Equal x y l r = x ∷ l
  place Greater x y l r = y ∷ r

  -- the elements that pass the test
  abbrev pub selected : (A → Bool) → List A → List A
  selected p [] = []
  selected p (x ∷ l) = pick (p x) (x ∷ selected p l) (selected p l)

module _ {A : Type 0} (cmp : A → A → Ordering) where
  -- x put into a sorted list, in the place of an element that it ties with
  abbrev pub put_in_order : A → List A → List A
  put_in_order x [] = x ∷ []
  put_in_order x (y ∷ l) = place (cmp x y) x y l (put_in_order x l)

  -- the elements in the order of `cmp`; of elements that tie, the one that stands first in the list
  abbrev pub sort : List A → List A
  sort [] = []
  sort (x ∷ l) = put_in_order x (sort l)

  -- each element of l comes after x
  abbrev pub Before : A → List A → Type 0
  Before x [] = Unit {0}
  Before x (y ∷ l) = (cmp x y ≡ Less) × Before x l

  -- each element comes before all that follow it
  abbrev pub Ascending : List A → Type 0
  Ascending [] = Unit {0}
  Ascending (x ∷ l) = Before x l × Ascending l

  -- e stands in l, and nothing before it ties with it
  abbrev pub First : A → List A → Type 0
  First e [] = ⊥
  First e (x ∷ l) = (e ≡ x) ⊎ ((cmp e x ≡ Equal → ⊥) × First e l)

-- n row numbers from i on
abbrev pub up_from : ℕ → ℕ → List ℕ
up_from i zero = []
up_from i (suc n) = i ∷ up_from (suc i) n

-- the rows of l that the numbers name
abbrev pub rows_at : {A : Type 0} → A → List A → List ℕ → List A
rows_at d l is = map (λ i. get_or l i d) is
