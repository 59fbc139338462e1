-- `cmp_bytes` is a total order. Assumes nothing.
use mathlib.Core.Path.{◌≡◌, refl, sym}
use mathlib.Core.Bool.{Bool, true, false}
use mathlib.Core.List.{List, [], ◌∷◌}
use Prim.Native.Nat.{ℕ, ◌<◌}
use native.Mathlib.Omega.{arith}
use lib.Dec.{ltb}
use borrow.Author.Tests.{lt-ltb, le-ltb, ltb-true, ltb-false}
use Rattle.text.specs.Order.{cmp_nat, and_then, cmp_bytes, flip}
use Rattle.std.specs.declared.cmp.Ordering.TheVariants.{Less, Equal, Greater}

-- ---- a number's order, by the three cases
pub data Tri (x y : ℕ) : Type 0 where
  below : x < y → cmp_nat x y ≡ Less → Tri x y
  at : x ≡ y → cmp_nat x y ≡ Equal → Tri x y
  above : y < x → cmp_nat x y ≡ Greater → Tri x y

-- one of three
pub tri : (x y : ℕ) → Tri x y
tri x y = by (ltb x y) refl (ltb y x) refl
  where
    by : (s : Bool) → ltb x y ≡ s → (t : Bool) → ltb y x ≡ t → Tri x y
    by true e t f = below (ltb-true x y e) (rw e)
    by false e true f = above (ltb-true y x f) (rw (e, f))
    by false e false f = at (omega (arith, ltb-false x y e, ltb-false y x f)) (rw (e, f))

nat-less : (x y : ℕ) → x < y → cmp_nat x y ≡ Less
nat-less x y h = rw (lt-ltb x y h)

nat-greater : (x y : ℕ) → y < x → cmp_nat x y ≡ Greater
nat-greater x y h = rw (le-ltb x y (omega arith), lt-ltb y x h)

nat-same : (x y : ℕ) → x ≡ y → cmp_nat x y ≡ Equal
nat-same x y h = rw (le-ltb x y (omega arith), le-ltb y x (omega arith))

-- ---- THE LAWS: a total order
pub cmp-refl : (s : List ℕ) → cmp_bytes s s ≡ Equal
unfolding cmp_bytes
cmp-refl [] = refl
cmp-refl (x ∷ s) = rw (nat-same x x refl, cmp-refl s)

-- the other way round
pub cmp-flip : (s t : List ℕ) → cmp_bytes t s ≡ flip (cmp_bytes s t)
unfolding cmp_bytes
cmp-flip [] [] = refl
cmp-flip [] (y ∷ t) = refl
cmp-flip (x ∷ s) [] = refl
cmp-flip (x ∷ s) (y ∷ t) = by (cmp-flip s t) (tri x y)
  where
    by : cmp_bytes t s ≡ flip (cmp_bytes s t) → Tri x y
        → and_then (cmp_nat y x) (cmp_bytes t s) ≡ flip (and_then (cmp_nat x y) (cmp_bytes s t))
    by ih (below h e) = rw (e, nat-greater y x h)
    by ih (at h e) = rw (e, nat-same y x (sym h), ih)
    by ih (above h e) = rw (e, nat-less y x h)

-- equal only for equal bytes
pub cmp-equal : (s t : List ℕ) → cmp_bytes s t ≡ Equal → s ≡ t
unfolding cmp_bytes
cmp-equal [] [] e = refl
cmp-equal [] (y ∷ t) e = absurd (let z : ◌≡◌ {A = ℕ} 0 1 = cc in omega arith)
cmp-equal (x ∷ s) [] e = absurd (let z : ◌≡◌ {A = ℕ} 0 1 = cc in omega arith)
cmp-equal (x ∷ s) (y ∷ t) e = by (cmp-equal s t) (tri x y)
  where
    by : (cmp_bytes s t ≡ Equal → s ≡ t) → Tri x y → ◌≡◌ {A = List ℕ} (x ∷ s) (y ∷ t)
    by ih (below h q) = let e' = rw q at e in absurd (let z : ◌≡◌ {A = ℕ} 0 1 = cc in omega arith)
    by ih (at h q) = let r = ih (rw q at e) in cc
    by ih (above h q) = let e' = rw q at e in absurd (let z : ◌≡◌ {A = ℕ} 0 1 = cc in omega arith)

-- transitive
pub cmp-trans : (s t u : List ℕ) → cmp_bytes s t ≡ Less → cmp_bytes t u ≡ Less → cmp_bytes s u ≡ Less
unfolding cmp_bytes
cmp-trans [] [] u e f = f
cmp-trans [] (y ∷ t) [] e f = absurd (let z : ◌≡◌ {A = ℕ} 0 1 = cc in omega arith)
cmp-trans [] (y ∷ t) (z ∷ u) e f = refl
cmp-trans (x ∷ s) [] u e f = absurd (let z : ◌≡◌ {A = ℕ} 0 1 = cc in omega arith)
cmp-trans (x ∷ s) (y ∷ t) [] e f = absurd (let z : ◌≡◌ {A = ℕ} 0 1 = cc in omega arith)
cmp-trans (x ∷ s) (y ∷ t) (z ∷ u) e f = by (cmp-trans s t u) (tri x y) (tri y z)
  where
    by : (cmp_bytes s t ≡ Less → cmp_bytes t u ≡ Less → cmp_bytes s u ≡ Less) → Tri x y → Tri y z
        → and_then (cmp_nat x z) (cmp_bytes s u) ≡ Less
    by ih (below h p) (below k q) = rw (nat-less x z (omega arith))
    by ih (below h p) (at k q) = rw (nat-less x z (omega arith))
    by ih (below h p) (above k q) = let f' = rw q at f in absurd (let z : ◌≡◌ {A = ℕ} 0 1 = cc in omega arith)
    by ih (at h p) (below k q) = rw (nat-less x z (omega arith))
    by ih (at h p) (at k q) = rw (nat-same x z (omega arith), ih (rw p at e) (rw q at f))
    by ih (at h p) (above k q) = let f' = rw q at f in absurd (let z : ◌≡◌ {A = ℕ} 0 1 = cc in omega arith)
    by ih (above h p) k = let e' = rw p at e in absurd (let z : ◌≡◌ {A = ℕ} 0 1 = cc in omega arith)
