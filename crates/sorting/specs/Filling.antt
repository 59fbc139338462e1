-- For the code: how a sorted list is made in its table, row by row: what the functions inside the crate promise. Assumes nothing.
use Rattle.std.specs.Prelude.{◌≡◌, Bool, List, ◌∷◌, ◌++◌, ℕ, suc, ◌≤◌, ◌<◌, length, take, drop, Option, Some, None, Result, Ok, Err}
use Rattle.std.proofs.Math.Seq.{slice}
use Rattle.std.specs.declared.cmp.Ordering.{Ordering}
use Rattle.sorting.specs.Sort.{put_in_order, Ascending}
use Rattle.sorting.specs.Keys.{column_at, name_of, row_order, row_marked}
use Rattle.sorting.specs.declared.Rows.{Rows}

-- rows as the code has them: their order, a cell of one, its name, and whether it is marked
abbrev pub order_of : Rows → ℕ → ℕ → Ordering
order_of r = row_order r.first.now r.second.now r.cells.now r.keys

abbrev pub column_of : Rows → ℕ → ℕ → ℕ
column_of r = column_at r.first.now r.second.now r.cells.now r.keys

abbrev pub name_in : Rows → ℕ → List ℕ
name_in r = name_of r.first.now r.second.now r.cells.now r.keys

abbrev pub marked_in : Rows → ℕ → Bool
marked_in r = row_marked r.first.now r.second.now r.cells.now r.keys

-- the first k of the table are in order
pub record Ordered (cmp : ℕ → ℕ → Ordering) (table : List ℕ) (k : ℕ) : Type 0 where
  pub room : k ≤ length table
  pub ascends : Ascending cmp (take k table)

-- x put into the list at a place: over what stands there, or in before it
abbrev pub inserted_at : Result ℕ ℕ → ℕ → List ℕ → List ℕ
inserted_at (Ok p) x l = take p l ++ x ∷ drop (suc p) l
inserted_at (Err p) x l = take p l ++ x ∷ drop p l

-- the place is one of the list
abbrev pub PlaceWithin : Result ℕ ℕ → List ℕ → Type 0
PlaceWithin (Ok p) l = p < length l
PlaceWithin (Err p) l = p ≤ length l

-- the place at which `put_in_order` puts x
pub record Placed (cmp : ℕ → ℕ → Ordering) (x : ℕ) (l : List ℕ) (r : Result ℕ ℕ) : Type 0 where
  pub within : PlaceWithin r l
  pub put_is : put_in_order cmp x l ≡ inserted_at r x l

-- the list with v put in at p and the element at k lost
abbrev pub inserted : List ℕ → ℕ → ℕ → ℕ → List ℕ
inserted l p k v = take p l ++ v ∷ (slice p k l ++ drop (suc k) l)

-- the table now begins with the list l, of r elements, and is as it was past them
pub record Filled (l before after : List ℕ) (r : ℕ) : Type 0 where
  pub count : r ≡ length l
  pub holds : after ≡ l ++ drop r before

-- the table begins with the list; or the list is longer than the table
abbrev pub Inserted : List ℕ → List ℕ → List ℕ → Option ℕ → Type 0
Inserted l before after (Some r) = Filled l before after r
Inserted l before after None = length before < length l
