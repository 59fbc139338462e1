-- Marks before and after a part of the second walk: what it adds to rules 2, 5 and 8. Assumes nothing.
use Prim.Native.Nat.{ℕ, ◌≤◌}
use native.Mathlib.Omega.{arith}
use mathlib.Core.Path.{◌≡◌, refl}
use mathlib.Core.Bool.{Bool, true, false}
use mathlib.Core.Logic.{◌↔◌}
use lib.Dec.{leb, eqb}
use borrow.Author.Tests.{leb-true, le-leb, eqb-true, eq-eqb}
use Rattle.refusal.specs.Pick.{pick}
use Rattle.strict.specs.Shapes.{Marks}
use Rattle.strict.specs.Again.{with_number, with_entries, with_flag}

-- the marks k hold where m do, and A, U and P besides
pub record Judged (m k : Marks) (A U P : Type 0) : Type 0 where
  pub short : (k.short ≡ true) ↔ ((m.short ≡ true) × A)
  pub used : (k.used ≡ true) ↔ ((m.used ≡ true) × U)
  pub plain : (k.plain ≡ true) ↔ ((m.plain ≡ true) × P)

same : {A : Type 0} → A ↔ (A × Unit {0})
same = (λ e. (e, tt), λ w. w.0)

next : {A B C P Q : Type 0} → B ↔ (A × P) → C ↔ (B × Q) → C ↔ (A × (P × Q))
next f g = (
  λ c.
      let x = g.0 c in
      let y = f.0 x.0 in
      (y.0, (y.1, x.1)),
  λ w. g.1 (f.1 (w.0, w.1.0), w.1.1),
)

other : {A B P Q : Type 0} → B ↔ (A × P) → P ↔ Q → B ↔ (A × Q)
other f g =
    (λ b. let x = f.0 b in (x.0, g.0 x.1), λ w. f.1 (w.0, g.1 w.1))

test : (t x : Bool) {Q : Type 0} → (t ≡ true → Q) → (Q → t ≡ true) → (pick t x false ≡ true) ↔ ((x ≡ true) × Q)
test true x f g = (λ e. (e, f refl), λ w. w.0)
test false x f g =
    (λ e. absurd (no e), λ w. g w.1)
  where
    no : false ≡ true → ⊥
    no e = let z : ◌≡◌ {A = ℕ} 0 1 = cc in omega arith

pub nothing : (m : Marks) → Judged m m (Unit {0}) (Unit {0}) (Unit {0})
nothing m = record { short = same; used = same; plain = same }

pub after : {m k n : Marks} {A U P B W Q : Type 0} → Judged m k A U P → Judged k n B W Q → Judged m n (A × B) (U × W) (P × Q)
after i j =
    record { short = next i.short j.short; used = next i.used j.used; plain = next i.plain j.plain }

pub as_said : {m k : Marks} {A U P B W Q : Type 0} → Judged m k A U P → A ↔ B → U ↔ W → P ↔ Q → Judged m k B W Q
as_said i a u p = record { short = other i.short a; used = other i.used u; plain = other i.plain p }

-- ---- a number of k bytes; the entries' end; a flag
pub shortens : (m : Marks) (k : ℕ) → Judged m (with_number m k) (k ≤ 5) (Unit {0}) (Unit {0})
unfolding with_number
shortens m k = record { short = test (leb k 5) m.short (leb-true k 5) (le-leb k 5); used = same; plain = same }

pub uses : (m : Marks) (at n : ℕ) → Judged m (with_entries m at n) (Unit {0}) (at ≡ n) (Unit {0})
unfolding with_entries
uses m at n = record { short = same; used = test (eqb at n) m.used (eqb-true at n) (eq-eqb at n); plain = same }

pub plains : (m : Marks) (x : ℕ) → Judged m (with_flag m x) (Unit {0}) (Unit {0}) (x ≤ 1)
unfolding with_flag
plains m x = record { short = same; used = same; plain = test (leb x 1) m.plain (leb-true x 1) (le-leb x 1) }

-- ---- shapes
pub itself : {A : Type 0} → A ↔ A
itself = (λ a. a, λ a. a)

pub right : {A : Type 0} → (Unit {0} × A) ↔ A
right = (λ w. w.1, λ a. (tt, a))

pub left : {A : Type 0} → (A × Unit {0}) ↔ A
left = (λ w. w.0, λ a. (a, tt))

pub no_more : (Unit {0} × Unit {0}) ↔ Unit {0}
no_more = (λ w. tt, λ w. (tt, tt))

pub three : {A B C : Type 0} → (A × (B × C)) ↔ (A × B × C)
three = (λ w. (w.0, w.1.0, w.1.1), λ w. (w.0, (w.1, w.2)))
