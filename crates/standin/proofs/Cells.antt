-- A table of differences and that of the exchanged lists, cell by cell. Assumes nothing.
use mathlib.Core.Path.{◌≡◌, refl, sym, ◌∙◌, ap}
use mathlib.Core.Bool.{Bool, true, false}
use mathlib.Core.List.{List, [], map}
use Prim.Native.Nat.{ℕ, zero, suc, ◌+◌, ◌-◌, ◌*◌, ◌≤◌, ◌<◌}
use native.Mathlib.Omega.{arith}
use native.Mathlib.Nat.{mul-le-mul_right}
use lib.Dec.{ltb}
use lib.ListN.{length, get_or, length-map, get_or-map}
use borrow.Author.Tests.{ltb-true, ltb-false}
use Rattle.refusal.specs.Pick.{pick}
use Rattle.table.specs.Table.{laid, cells, cell_of}
use Rattle.table.specs.Shape.{width, cell_in}
use Rattle.table.proofs.Laws.{length-cells, cell-laid, zero-past}
use Rattle.differences.specs.declared.Change.{Change}
use Rattle.differences.specs.declared.Change.TheVariants.{Removed, Added}
use Rattle.differences.specs.View.{ExportKey, Need}
use Rattle.differences.specs.Differences.{Entry, entry}
use Rattle.differences.specs.Compared.{change_number, export_diff_cells, need_diff_cells}
use Rattle.covering.specs.Replacing.{other, reversed}
use Rattle.standin.specs.Claims.{CellsExchanged}

-- past the rows of a table every cell is zero
past : {R : Type 0} (f : R → List ℕ) (w : ℕ) → ((r : R) → length (f r) ≡ w) → (n : ℕ) (rows : List R) (i j : ℕ) → length rows ≤ i
    → cell_of (laid n (cells f rows)) w i j ≡ 0
unfolding cell_of
past f w wide n rows i j h = by (ltb j w)
  where
    by : (t : Bool) → pick t (get_or (laid n (cells f rows)) (i * w + j) 0) 0 ≡ 0
    by true =
        let k : length (cells f rows) + (i * w + j - length (cells f rows)) ≡ i * w + j =
        omega (arith, length-cells f w wide rows, mul-le-mul_right w h) in
        ap (λ (m : ℕ). get_or (laid n (cells f rows)) m 0) (sym k)
        ∙ zero-past n (cells f rows) (i * w + j - length (cells f rows))
    by false = refl

module _ {K : Type 0} (f : Entry K → List ℕ) (t : ℕ) (wide : (e : Entry K) → length (f e) ≡ width t) (some : 0 < width t) (none : Entry K)
    (first : (e : Entry K) → get_or (f e) 0 0 + get_or (f (reversed e)) 0 0 ≡ 1)
    (others : (e : Entry K) (j : ℕ) → 0 < j → get_or (f e) j 0 ≡ get_or (f (reversed e)) j 0) (n : ℕ) (es : List (Entry K)) where
  abbrev table : List ℕ
  table = laid n (cells f es)

  abbrev exchanged_table : List ℕ
  exchanged_table = laid n (cells f (map reversed es))

  here : (i j : ℕ) → i < length es → j < width t → cell_in t table i j ≡ get_or (f (get_or es i none)) j 0
  here i j h k = cell-laid f (width t) wide n es i j none h k

  there : (i j : ℕ) → i < length es → j < width t → cell_in t exchanged_table i j ≡ get_or (f (reversed (get_or es i none))) j 0
  there i j h k =
      cell-laid f (width t) wide n (map reversed es) i j (reversed none) (omega (arith, length-map es reversed)) k
      ∙ ap (λ (e : Entry K). get_or (f e) j 0) (get_or-map reversed es i none)

  below : (i j : ℕ) → length es ≤ i → cell_in t table i j ≡ cell_in t exchanged_table i j
  below i j h =
      past f (width t) wide n es i j h ∙ sym (past f (width t) wide n (map reversed es) i j (omega (arith, length-map es reversed)))

  other-cells : (i j : ℕ) → 0 < j → cell_in t table i j ≡ cell_in t exchanged_table i j
  unfolding cell_of
  other-cells i j h = by (ltb i (length es)) refl (ltb j (width t)) refl
    where
      by : (s : Bool) → ltb i (length es) ≡ s → (u : Bool) → ltb j (width t) ≡ u → cell_in t table i j ≡ cell_in t exchanged_table i j
      by true p true q =
          let a = ltb-true i (length es) p in
          let b = ltb-true j (width t) q in
          here i j a b ∙ others (get_or es i none) j h ∙ sym (there i j a b)
      by true p false q = rw q
      by false p u q = below i j (ltb-false i (length es) p)

  turned : CellsExchanged t (length es) table exchanged_table
  turned =
      record {
        first = λ i h. omega (arith, here i 0 h some, there i 0 h some, first (get_or es i none));
        others = other-cells;
        below = below;
      }

change-turned : (c : Change) → change_number c + change_number (other c) ≡ 1
change-turned Removed = refl
change-turned Added = refl

-- ---- tables 8 and 9
pub export-cells : (n : ℕ) (es : List (Entry ExportKey))
    → CellsExchanged 8 (length es) (laid n (cells export_diff_cells es)) (laid n (cells export_diff_cells (map reversed es)))
export-cells =
    turned export_diff_cells 8 (λ e. refl) (omega arith) (entry Removed (record { at = 0; key = record { name = []; kind = 0 } }))
    (λ e. change-turned e.change) others
  where
    others : (e : Entry ExportKey) (j : ℕ) → 0 < j → get_or (export_diff_cells e) j 0 ≡ get_or (export_diff_cells (reversed e)) j 0
    others e zero h = absurd (omega arith)
    others e (suc j) h = refl

pub need-cells : (n : ℕ) (es : List (Entry Need))
    → CellsExchanged 9 (length es) (laid n (cells need_diff_cells es)) (laid n (cells need_diff_cells (map reversed es)))
need-cells =
    turned need_diff_cells 9 (λ e. refl) (omega arith) (entry Removed (record { at = 0; key = record { domain = 0; source = [] } }))
    (λ e. change-turned e.change) others
  where
    others : (e : Entry Need) (j : ℕ) → 0 < j → get_or (need_diff_cells e) j 0 ≡ get_or (need_diff_cells (reversed e)) j 0
    others e zero h = absurd (omega arith)
    others e (suc j) h = refl
