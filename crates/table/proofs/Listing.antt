-- Laws of lists in a lent table. Assumes nothing.
use mathlib.Core.Path.{◌≡◌, refl}
use mathlib.Core.Bool.{Bool, true, false}
use mathlib.Core.List.{List, []}
use Prim.Native.Nat.{ℕ}
use lib.Dec.{leb}
use lib.ListN.{length}
use Rattle.refusal.specs.Pick.{pick}
use Rattle.refusal.specs.Said.{Said, accepted, refused, follow, spot, Place}
use Rattle.table.specs.Table.{laid}
use Rattle.table.specs.Entries.{finished, fitting}
use Rattle.table.specs.Listing.{fitted, ListsRows}

-- a refusal, with the table cleared
pub lists-stop : {x : Said (List ℕ)} {before after : List ℕ} {n : ℕ} {p : Place} → x ≡ refused n p → after ≡ laid (length before) []
    → ListsRows x before after (refused n p)
unfolding follow
lists-stop e h = rw e (record { answer-is = refl; table_is = h })

-- a list that was finished, as the sort tells it
pub lists-sorted : (tn : ℕ) (l before after : List ℕ) {a : Said ℕ} → a ≡ finished tn (length before) l
    → after ≡ laid (length before) (fitting (length before) l) → ListsRows (fitted tn (length before) l) before after a
unfolding fitted finished fitting follow
lists-sorted tn l before after {a} e h = by (leb (length l) (length before)) e h where
  by : (b : Bool) → a ≡ pick b (accepted (length l)) (refused 13 (spot tn)) → after ≡ laid (length before) (pick b l [])
      → ListsRows (pick b (accepted l) (refused 13 (spot tn))) before after a
  by true p q = record { answer-is = p; table_is = q }
  by false p q = record { answer-is = p; table_is = q }
