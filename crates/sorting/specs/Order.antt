-- docs/RULES.md, "Tables", sorted lists: what makes a three-way comparison an order. Assumes nothing.
use Rattle.std.specs.Prelude.{◌≡◌}
use Rattle.text.specs.Order.{and_then, flip}
use Rattle.std.specs.declared.cmp.Ordering.{Ordering}
use Rattle.std.specs.declared.cmp.Ordering.TheVariants.{Less, Equal, Greater}

-- what x against y and y against z leave open of x against z
abbrev pub Joins : Ordering → Ordering → Ordering → Type 0
Joins Less Less c = c ≡ Less
Joins Less Equal c = c ≡ Less
Joins Less Greater c = Unit {0}
Joins Equal b c = c ≡ b
Joins Greater Less c = Unit {0}
Joins Greater Equal c = c ≡ Greater
Joins Greater Greater c = c ≡ Greater

-- a lawful comparison: turned round by exchanging its arguments, and transitive, ties included
pub record Lawful {A : Type 0} (cmp : A → A → Ordering) : Type 0 where
  pub turn : (x y : A) → cmp y x ≡ flip (cmp x y)
  pub join : (x y z : A) → Joins (cmp x y) (cmp y z) (cmp x z)

-- a comparison of A after a function into A
abbrev pub on : {A B : Type 0} → (A → A → Ordering) → (B → A) → B → B → Ordering
on cmp f x y = cmp (f x) (f y)

-- one comparison, and another where it ties
abbrev pub then_by : {A : Type 0} → (A → A → Ordering) → (A → A → Ordering) → A → A → Ordering
then_by c d x y = and_then (c x y) (d x y)
