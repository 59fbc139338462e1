-- Where a row goes in an ordered list: what the binary search answers. Assumes nothing.
use mathlib.Core.Path.{◌≡◌, refl, ap, ◌∙◌}
use mathlib.Core.Bool.{Bool, true, false}
use mathlib.Core.List.{List}
use borrow.Author.Tests.{ltb-true, ltb-false}
use Prim.Native.Nat.{ℕ, ◌≤◌}
use native.Mathlib.Omega.{arith}
use lib.Dec.{ltb}
use lib.ListN.{length, get_or}
use Rattle.std.specs.Prelude.{Result, Ok, Err}
use Rattle.std.specs.declared.cmp.Ordering.{Ordering}
use Rattle.std.specs.declared.cmp.Ordering.TheVariants.{Less, Equal, Greater}
use Rattle.std.specs.Ordering.{ordering_index}
use Rattle.std.specs.List.Sorted.{IsBinarySearchResult, IsNonDecreasingBy, IsSearchInRange}
use Rattle.text.specs.Order.{flip}
use Rattle.sorting.specs.Order.{Joins, Lawful}
use Rattle.sorting.specs.Sort.{Ascending}
use Rattle.sorting.specs.Filling.{Placed}
use Rattle.sorting.proofs.Places.{put-before, put-over, ascending-get_d, after-eq}

module _ (cmp : ℕ → ℕ → Ordering) (laws : Lawful cmp) (x : ℕ) (l : List ℕ) (asc : Ascending cmp l) where
  turned : {y : ℕ} {o : Ordering} → cmp y x ≡ o → cmp x y ≡ flip o
  turned {y} e = laws.turn y x ∙ ap flip e

  -- what comes before an element is no further on against x
  lower : (b c : Ordering) → Joins Less b c → ordering_index c ≤ ordering_index b
  lower Less c h = rw h (omega arith)
  lower Equal c h = rw h (omega arith)
  lower Greater Less h = omega arith
  lower Greater Equal h = omega arith
  lower Greater Greater h = omega arith

  rises : IsNonDecreasingBy (λ y. ordering_index (cmp y x)) l
  rises i j d h k = by (ltb i j) refl
    where
      by : (t : Bool) → ltb i j ≡ t → ordering_index (cmp (get_or l i d) x) ≤ ordering_index (cmp (get_or l j d) x)
      by true e =
          lower (cmp (get_or l j d) x) (cmp (get_or l i d) x)
          (rw (ascending-get_d cmp d l asc i j (ltb-true i j e) k) at (laws.join (get_or l i d) (get_or l j d) x))
      by false e = let z : i ≡ j = omega (arith, ltb-false i j e) in rw z (omega arith)

  -- the place that the binary search finds is the one at which `put_in_order` puts x
  pub placed : (r : Result ℕ ℕ) → IsSearchInRange r (length l) → IsBinarySearchResult (λ y. cmp y x) l r → Placed cmp x l r
  placed (Ok p) h e =
      let same : cmp x (get_or l p 0) ≡ Equal = turned (e 0) in
      record {
        within = h;
        put_is = put-over cmp x 0 l p h
            (λ j k. after-eq cmp laws x (get_or l p 0) (get_or l j 0) same (ascending-get_d cmp 0 l asc j p k h)) same;
      }
  placed (Err p) h e =
      record {
        within = h;
        put_is = put-before cmp x 0 l p h (λ j k. turned ((e rises).0 j 0 (omega arith) k)) (λ k. turned ((e rises).1 p 0 (omega arith) k));
      }
