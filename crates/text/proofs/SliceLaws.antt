-- What the standard library's comparisons and searches answer, in the words of specs/. Assumes nothing.
use mathlib.Core.Path.{◌≡◌, refl, sym}
use mathlib.Core.Bool.{Bool, true, false, cond, ◌&&◌}
use mathlib.Core.List.{List, [], ◌∷◌}
use Prim.Native.Nat.{ℕ}
use native.Mathlib.Omega.{arith}
use lib.Dec.{eqb, ltb}
use lib.ListN.{length, take}
use borrow.Author.Tests.{ltb-false}
use Rattle.std.specs.declared.cmp.Ordering.{Ordering}
use Rattle.std.specs.declared.cmp.Ordering.TheVariants.{Less, Equal, Greater}
use Rattle.std.specs.Prelude.{Option, Some, None, nat_eq}
use Rattle.std.specs.Ordering.{ordering_then, nat_cmp}
use Rattle.std.specs.Cmp.Lexicographic.{slice_cmp, pointwise}
use Rattle.std.specs.Option.{unwrap_or}
use Rattle.std.specs.List.{position_or_len}
use Rattle.std.proofs.lemmas.Bool.Decides.{nat_tests}
use Rattle.refusal.specs.Pick.{both}
use Rattle.text.specs.Order.{cmp_nat, and_then, cmp_bytes}
use Rattle.text.specs.Find.{seek, begins, same, index_of}
use Rattle.text.proofs.FindLaws.{index-cons, index-le}

-- ---- comparing
pub cmp_numbers : (x y : ℕ) → nat_cmp x y ≡ cmp_nat x y
cmp_numbers x y = grind (arith, nat_tests)

pub then_same : (o p : Ordering) → ordering_then o p ≡ and_then o p
then_same Less p = refl
then_same Equal p = refl
then_same Greater p = refl

pub cmp_slices : (a b : List ℕ) → slice_cmp nat_cmp a b ≡ cmp_bytes a b
unfolding cmp_bytes
cmp_slices [] [] = refl
cmp_slices [] (y ∷ b) = refl
cmp_slices (x ∷ a) [] = refl
cmp_slices (x ∷ a) (y ∷ b) = rw (cmp_numbers x y, cmp_slices a b) (then_same (cmp_nat x y) (cmp_bytes a b))

-- ---- being equal, and beginning
turned_test : (x y : ℕ) → (x ≡ y → y ≡ x) → eqb x y ≡ eqb y x
turned_test x y h = grind (arith, nat_tests)

and_both : (p q : Bool) → (p && q) ≡ both p q
and_both true q = refl
and_both false q = refl

pub same_slices : (s w : List ℕ) → pointwise nat_eq s w ≡ same w s
unfolding same
same_slices [] [] = refl
same_slices [] (c ∷ w) = refl
same_slices (x ∷ s) [] = refl
same_slices (x ∷ s) (c ∷ w) = rw (same_slices s w) (and_both (eqb x c) (same w s))

pub begins_slices : (w s : List ℕ) → pointwise nat_eq w (take (length w) s) ≡ begins w s
unfolding begins
begins_slices [] s = refl
begins_slices (c ∷ w) [] = refl
begins_slices (c ∷ w) (x ∷ s) = rw (begins_slices w s, turned_test c x sym) (and_both (eqb x c) (begins w s))

-- ---- searching
position_is : (b : ℕ) (s : List ℕ) → position_or_len (λ x. eqb x b) s ≡ index_of b s
unfolding index_of seek
position_is b [] = refl
position_is b (x ∷ s) = by (position_is b s) (eqb x b) refl
  where
    by : position_or_len (λ y. eqb y b) s ≡ index_of b s → (t : Bool) → eqb x b ≡ t
        → position_or_len (λ y. eqb y b) (x ∷ s) ≡ index_of b (x ∷ s)
    by ih true e = rw (index-cons b x s, e)
    by ih false e = rw (index-cons b x s, e, ih) (omega arith)

-- the place that `position` finds, or the length
pub found_at : (b : ℕ) (s : List ℕ) (r : Option ℕ) → let n = position_or_len (λ x. eqb x b) s in
    r ≡ cond (ltb n (length s)) (Some n) None → unwrap_or r (length s) ≡ index_of b s
found_at b s r e = rw (e, position_is b s) (by (ltb (index_of b s) (length s)) refl)
  where
    by : (t : Bool) → ltb (index_of b s) (length s) ≡ t → unwrap_or (cond t (Some (index_of b s)) None) (length s) ≡ index_of b s
    by true q = refl
    by false q = omega (arith, ltb-false (index_of b s) (length s) q, index-le b s)
