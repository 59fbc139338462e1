-- Tests of rows, and what a list of rows answers. Assumes nothing.
use Rattle.std.specs.Prelude.{Option, Some, None, Result}
use Rattle.std.specs.Option.{ok_or}
use Rattle.std.specs.List.{count_by, range_with_len}
use Rattle.std.proofs.lemmas.List.Sums.{sum_by-cons}
use native.Mathlib.Omega.{arith}
use Prim.Native.Nat.{ℕ, zero, suc, ◌+◌, ◌-◌, ◌/◌, ◌%◌, ◌^◌, ◌≤◌, ◌<◌}
use mathlib.Core.Path.{◌≡◌, refl, sym, ◌∙◌, ap}
use mathlib.Core.Bool.{Bool, true, false, cond}
use mathlib.Core.List.{List}
use borrow.Author.Tests.{lt-ltb, le-ltb, eq-eqb, ne_eqb}
use lib.Bits.{bit_and, and_mask}
use lib.Dec.{eqb}
use lib.ListN.{length}
use Rattle.refusal.specs.Pick.{pick}
use Rattle.refusal.specs.Sizes.{file_limit}
use Rattle.refusal.specs.Said.{Said, accepted, refused, follow, spot, Place, said_by}
use Rattle.refusal.specs.declared.Refusal.{Refusal}
use Rattle.refusal.specs.declared.Refusal.TheVariants.{Full}
use Rattle.table.specs.Testing.{bad, count_from}
use Rattle.table.specs.Listing.{ListsRows, fitted}
use Rattle.table.proofs.Testing.{count-hit, count-miss, count-end}
use Rattle.table.proofs.Listing.{lists-sorted}
use Rattle.sorting.specs.Keys.{said_sorted, Sorts}
use Rattle.import_rows.specs.Queries.{import_cell, given_of, number_fits, marked, desc_fits}
use Rattle.import_rows.specs.Queries.{kind_is, imports_tested, asked}

-- the number in a column, by the bit of the mark and by the cell
module _ (given : ℕ) (imports : List ℕ) (i column : ℕ) where
  abbrev bit : ℕ
  bit = given / 2 ^ (column - 5)

  pub number-there : bit_and bit 1 ≡ 1 → true ≡ number_fits given imports i column
  unfolding number_fits
  number-there e = rw (eq-eqb (bit % 2) 1 (sym (and_mask bit 1) ∙ e))

  pub number-absent : (bit_and bit 1 ≡ 1 → ⊥) → {k : ℕ} → k ≡ import_cell imports i column → eqb k 0 ≡ number_fits given imports i column
  unfolding number_fits
  number-absent h e = rw (ne_eqb (bit % 2) 1 (λ q. h (and_mask bit 1 ∙ q)), e)

-- the numbers of a row from a column on: what is left makes the whole answer
pub record Numbered (given : ℕ) (imports : List ℕ) (i column : ℕ) : Type 0 where
  pub left : desc_fits imports i ≡ eqb (count_from (bad (number_fits given imports i)) column (11 - column)) 0

module _ {given : ℕ} {imports : List ℕ} {i column : ℕ} (w : Numbered given imports i column) where
  module _ (h : column < 11) {r : Bool} (e : r ≡ number_fits given imports i column) where
    pub number-out : r ≡ false → false ≡ desc_fits imports i
    number-out q =
        rw (w.left, count-hit (bad (number_fits given imports i)) column 11 h (rw (← e, q)))
        (sym (ne_eqb (suc (count_from (bad (number_fits given imports i)) (column + 1) (11 - (column + 1)))) 0 (λ z. omega arith)))

    pub number_in : r ≡ true → Numbered given imports i (column + 1)
    number_in q =
        record {
          left = w.left ∙ ap (λ (n : ℕ). eqb n 0) (count-miss (bad (number_fits given imports i)) column 11 h (rw (← e, q)));
        }

  pub numbers-in : 11 ≤ column → true ≡ desc_fits imports i
  numbers-in h = rw (w.left, count-end (bad (number_fits given imports i)) column 11 h)

-- the mark of a row
module _ (imports : List ℕ) (i : ℕ) {kind flag given mark : ℕ} (ek : kind ≡ import_cell imports i 4) (ef : flag ≡ import_cell imports i 7)
    (eg : given ≡ given_of kind flag) (em : mark ≡ import_cell imports i 11) where
  desc-is : desc_fits imports i ≡ marked given imports i
  unfolding desc_fits
  desc-is = rw (← ek, ← ef, ← eg)

  pub mark-out : (mark ≡ given → ⊥) → false ≡ desc_fits imports i
  unfolding marked
  mark-out h = rw (desc-is, ← em, ne_eqb mark given h)

  pub mark-in : mark ≡ given → Numbered given imports i 5
  unfolding marked
  mark-in h = record { left = rw (desc-is, ← em, eq-eqb mark given h) }

module _ (imports : List ℕ) (i : ℕ) {k : ℕ} (e : k ≡ import_cell imports i 4) where
  pub kind-hit : {kind : ℕ} → k ≡ kind → kind_is imports kind i ≡ true
  unfolding kind_is
  kind-hit {kind} h = rw (← e, eq-eqb k kind h)

  pub kind-miss : {kind : ℕ} → (k ≡ kind → ⊥) → kind_is imports kind i ≡ false
  unfolding kind_is
  kind-miss {kind} h = rw (← e, ne_eqb k kind h)

-- 14, then 15, then what the rows answer
module _ {X : Type 0} (file imports : List ℕ) (n : ℕ) (then : Said X) where
  pub asked-long : file_limit < length file → asked file imports n then ≡ refused 14 (spot 0)
  unfolding asked
  asked-long h = rw (lt-ltb file_limit (length file) h)

  module _ (short : length file ≤ file_limit) where
    pub asked-bad : {m : ℕ} {p : Place} → imports_tested (length file) imports n ≡ refused m p → asked file imports n then ≡ refused m p
    unfolding asked follow
    asked-bad e = rw (le-ltb file_limit (length file) short, e)

    pub asked-good : {u : Unit {0}} → imports_tested (length file) imports n ≡ accepted u → asked file imports n then ≡ then
    unfolding asked follow
    asked-good e = rw (le-ltb file_limit (length file) short, e)

-- a list that a sort put into a lent table, or 13 at that table's number
sorted-said : (tn : ℕ) (r : Option ℕ) → said_by (ok_or r (Full tn)) ≡ said_sorted tn r
sorted-said tn None = refl
sorted-said tn (Some n) = refl

pub sorts-listed : (tn : ℕ) (l before after : List ℕ) {r : Option ℕ} {a : Result ℕ Refusal} → a ≡ ok_or r (Full tn)
    → Sorts l before after r → ListsRows (fitted tn (length before) l) before after (said_by a)
sorts-listed tn l before after {r} e s =
    lists-sorted tn l before after (ap said_by e ∙ sorted-said tn r ∙ s.answer-is tn) s.table_is

pub listed-as : {x y : Said (List ℕ)} {before after : List ℕ} {a : Said ℕ} → x ≡ y → ListsRows y before after a
    → ListsRows x before after a
listed-as e h = rw e h

-- how many rows are of a kind, as the library counts
module _ (imports : List ℕ) (kind : ℕ) where
  one-more : (b : Bool) (m : ℕ) → cond b 1 0 + m ≡ pick b (suc m) m
  one-more true m = omega arith
  one-more false m = omega arith

  pub count-range : (i n : ℕ)
      → count_by (λ j. eqb (import_cell imports j 4) kind) (range_with_len i n) ≡ count_from (kind_is imports kind) i n
  unfolding count_from kind_is
  count-range i zero = refl
  count-range i (suc n) =
      sum_by-cons (λ j. cond (eqb (import_cell imports j 4) kind) 1 0) i (range_with_len (i + 1) n)
      ∙ ap (λ (m : ℕ). cond (eqb (import_cell imports i 4) kind) 1 0 + m) (count-range (i + 1) n)
      ∙ one-more (eqb (import_cell imports i 4) kind) (count_from (kind_is imports kind) (i + 1) n)
