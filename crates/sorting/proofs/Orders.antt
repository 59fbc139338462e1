-- Comparisons that are lawful: of numbers, of byte strings, after a function, one after another. Assumes nothing.
use mathlib.Core.Path.{◌≡◌, refl, sym, ◌∙◌, ap}
use mathlib.Core.List.{List, [], ◌∷◌}
use Prim.Native.Nat.{ℕ, ◌<◌}
use native.Mathlib.Omega.{arith}
use borrow.Author.Tests.{lt-ltb, le-ltb}
use Rattle.text.specs.Order.{cmp_nat, and_then, cmp_bytes, flip}
use Rattle.std.specs.declared.cmp.Ordering.{Ordering}
use Rattle.std.specs.declared.cmp.Ordering.TheVariants.{Less, Equal, Greater}
use Rattle.text.proofs.OrderLaws.{Tri, below, at, above, tri, cmp-flip, cmp-equal}
use Rattle.sorting.specs.Order.{Joins, Lawful, on, then_by}

-- ---- numbers
pub nat-less : (x y : ℕ) → x < y → cmp_nat x y ≡ Less
nat-less x y h = rw (lt-ltb x y h)

pub nat-greater : (x y : ℕ) → y < x → cmp_nat x y ≡ Greater
nat-greater x y h = rw (le-ltb x y (omega arith), lt-ltb y x h)

pub nat-same : (x y : ℕ) → x ≡ y → cmp_nat x y ≡ Equal
nat-same x y h = rw (le-ltb x y (omega arith), le-ltb y x (omega arith))

turn-nat : (x y : ℕ) → cmp_nat y x ≡ flip (cmp_nat x y)
turn-nat x y = by (tri x y)
  where
    by : Tri x y → cmp_nat y x ≡ flip (cmp_nat x y)
    by (below h e) = nat-greater y x h ∙ ap flip (sym e)
    by (at h e) = nat-same y x (sym h) ∙ ap flip (sym e)
    by (above h e) = nat-less y x h ∙ ap flip (sym e)

from-lt : (b : Ordering) → Joins Less b Less
from-lt Less = refl
from-lt Equal = refl
from-lt Greater = tt

from-gt : (b : Ordering) → Joins Greater b Greater
from-gt Less = tt
from-gt Equal = refl
from-gt Greater = refl

to-lt : (a : Ordering) → Joins a Less Less
to-lt Less = refl
to-lt Equal = refl
to-lt Greater = tt

to-gt : (a : Ordering) → Joins a Greater Greater
to-gt Less = tt
to-gt Equal = refl
to-gt Greater = refl

join-nat : (x y z : ℕ) → Joins (cmp_nat x y) (cmp_nat y z) (cmp_nat x z)
join-nat x y z = by (tri x y) (tri y z)
  where
    by : Tri x y → Tri y z → Joins (cmp_nat x y) (cmp_nat y z) (cmp_nat x z)
    by (below h e) (below k f) = rw (e, f) (nat-less x z (omega arith))
    by (below h e) (at k f) = rw (e, f) (nat-less x z (omega arith))
    by (below h e) (above k f) = rw (e, f) tt
    by (at h e) k = rw e (ap (λ (n : ℕ). cmp_nat n z) h)
    by (above h e) (below k f) = rw (e, f) tt
    by (above h e) (at k f) = rw (e, f) (nat-greater x z (omega arith))
    by (above h e) (above k f) = rw (e, f) (nat-greater x z (omega arith))

pub lawful-nat : Lawful cmp_nat
lawful-nat = record { turn = turn-nat; join = join-nat }

-- ---- one comparison after another
then_flip : (a b : Ordering) → and_then (flip a) (flip b) ≡ flip (and_then a b)
then_flip Less b = refl
then_flip Equal b = refl
then_flip Greater b = refl

then-join : (a b c a' b' c' : Ordering) → Joins a b c → Joins a' b' c' → Joins (and_then a a') (and_then b b') (and_then c c')
then-join Less Less c a' b' c' h k = rw h
then-join Less Equal c a' b' c' h k = rw h (from-lt b')
then-join Less Greater c a' b' c' h k = tt
then-join Equal Less c a' b' c' h k = rw h (to-lt a')
then-join Equal Equal c a' b' c' h k = rw h k
then-join Equal Greater c a' b' c' h k = rw h (to-gt a')
then-join Greater Less c a' b' c' h k = tt
then-join Greater Equal c a' b' c' h k = rw h (from-gt b')
then-join Greater Greater c a' b' c' h k = rw h

-- two answers together tie only if both do
pub then_tie : (a b : Ordering) → and_then a b ≡ Equal → (a ≡ Equal) × (b ≡ Equal)
then_tie Less b h = absurd (let z : ◌≡◌ {A = ℕ} 0 1 = cc in omega arith)
then_tie Equal b h = (refl, h)
then_tie Greater b h = absurd (let z : ◌≡◌ {A = ℕ} 0 1 = cc in omega arith)

-- ---- byte strings
join-bytes : (x y z : List ℕ) → Joins (cmp_bytes x y) (cmp_bytes y z) (cmp_bytes x z)
unfolding cmp_bytes
join-bytes [] [] z = refl
join-bytes [] (y ∷ ys) [] = tt
join-bytes [] (y ∷ ys) (z ∷ zs) = from-lt (cmp_bytes (y ∷ ys) (z ∷ zs))
join-bytes (x ∷ xs) [] [] = refl
join-bytes (x ∷ xs) [] (z ∷ zs) = tt
join-bytes (x ∷ xs) (y ∷ ys) [] = to-gt (cmp_bytes (x ∷ xs) (y ∷ ys))
join-bytes (x ∷ xs) (y ∷ ys) (z ∷ zs) =
    then-join (cmp_nat x y) (cmp_nat y z) (cmp_nat x z) (cmp_bytes xs ys) (cmp_bytes ys zs) (cmp_bytes xs zs)
    (join-nat x y z) (join-bytes xs ys zs)

pub lawful-bytes : Lawful cmp_bytes
lawful-bytes = record { turn = cmp-flip; join = join-bytes }

pub lawful-on : {A B : Type 0} {cmp : A → A → Ordering} → Lawful cmp → (f : B → A) → Lawful (on cmp f)
lawful-on l f = record { turn = λ x y. l.turn (f x) (f y); join = λ x y z. l.join (f x) (f y) (f z) }

pub lawful_then : {A : Type 0} {c d : A → A → Ordering} → Lawful c → Lawful d → Lawful (then_by c d)
lawful_then {c = c} {d = d} l m =
    record {
      turn = λ x y. rw (l.turn x y, m.turn x y) (then_flip (c x y) (d x y));
      join = λ x y z. then-join (c x y) (c y z) (c x z) (d x y) (d y z) (d x z) (l.join x y z) (m.join x y z);
    }

-- what ties nothing, after any comparison
pub lawful-tie : {A : Type 0} → Lawful {A = A} (λ x y. Equal)
lawful-tie = record { turn = λ x y. refl; join = λ x y z. refl }

-- where only equals tie
pub exact-nat : (x y : ℕ) → cmp_nat x y ≡ Equal → x ≡ y
exact-nat x y q = by (tri x y)
  where
    by : Tri x y → x ≡ y
    by (below h e) = let f = sym e ∙ q in absurd (let z : ◌≡◌ {A = ℕ} 0 1 = cc in omega arith)
    by (at h e) = h
    by (above h e) = let f = sym e ∙ q in absurd (let z : ◌≡◌ {A = ℕ} 0 1 = cc in omega arith)

pub exact_bytes : (x y : List ℕ) → cmp_bytes x y ≡ Equal → x ≡ y
exact_bytes = cmp-equal
