-- What a list of rows answers. Assumes nothing.
use Rattle.std.specs.Prelude.{Option, Some, None, Result}
use Rattle.std.specs.Option.{ok_or}
use Prim.Native.Nat.{ℕ}
use mathlib.Core.Path.{◌≡◌, refl, ◌∙◌, ap}
use mathlib.Core.Bool.{Bool, true, false}
use mathlib.Core.List.{List}
use lib.ListN.{length}
use Rattle.refusal.specs.Said.{Said, accepted, refused, follow, Place, said_by}
use Rattle.refusal.specs.declared.Refusal.{Refusal}
use Rattle.refusal.specs.declared.Refusal.TheVariants.{Full}
use Rattle.table.specs.Shape.{width}
use Rattle.table.specs.Listing.{ListsRows, fitted}
use Rattle.table.proofs.Listing.{lists-sorted}
use Rattle.sorting.specs.Keys.{by_name, sorted_rows, other_rows, said_sorted, Sorts}
use Rattle.sorting.specs.declared.Keys.{Keys}
use Rattle.reference_rows.specs.Queries.{manifest_tested, path_rows, paths_of}

-- the sort, for the one direction and the other
module _ (s references : List ℕ) (n : ℕ) (before after : List ℕ) (r : Option ℕ) (export : Bool)
    {k : Keys} (e : k ≡ by_name (width 6) 2 3 1 0) where
  pub sorts-exports : export ≡ true → Sorts (other_rows s s references k n) before after r
      → Sorts (path_rows export s references n) before after r
  unfolding path_rows
  sorts-exports q h = rw q (rw e at h)

  pub sorts-imports : export ≡ false → Sorts (sorted_rows s s references k n) before after r
      → Sorts (path_rows export s references n) before after r
  unfolding path_rows
  sorts-imports q h = rw q (rw e at h)

-- the list, after the tests
module _ (export : Bool) (s worlds : List ℕ) (n5 : ℕ) (references : List ℕ) (n6 room : ℕ) where
  pub paths-bad : {m : ℕ} {p : Place} → manifest_tested s worlds n5 references n6 ≡ refused m p
      → paths_of export s worlds n5 references n6 room ≡ refused m p
  unfolding paths_of follow
  paths-bad e = rw e

  pub paths-good : {u : Unit {0}} → manifest_tested s worlds n5 references n6 ≡ accepted u
      → paths_of export s worlds n5 references n6 room ≡ fitted 15 room (path_rows export s references n6)
  unfolding paths_of follow
  paths-good e = rw e

-- a list that a sort put into a lent table, or 13 at that table's number
sorted-said : (tn : ℕ) (r : Option ℕ) → said_by (ok_or r (Full tn)) ≡ said_sorted tn r
sorted-said tn None = refl
sorted-said tn (Some n) = refl

pub sorts-listed : (tn : ℕ) (l before after : List ℕ) {r : Option ℕ} {a : Result ℕ Refusal} → a ≡ ok_or r (Full tn)
    → Sorts l before after r → ListsRows (fitted tn (length before) l) before after (said_by a)
sorts-listed tn l before after {r} e s =
    lists-sorted tn l before after (ap said_by e ∙ sorted-said tn r ∙ s.answer-is tn) s.table_is

pub listed-as : {x y : Said (List ℕ)} {before after : List ℕ} {a : Said ℕ} → x ≡ y → ListsRows y before after a
    → ListsRows x before after a
listed-as e h = rw e h
