-- A table of keys, row by row. Assumes nothing.
use mathlib.Core.Path.{◌≡◌, refl, ◌∙◌, ap}
use mathlib.Core.Bool.{Bool, true, false}
use mathlib.Core.List.{List}
use Prim.Native.Nat.{ℕ, ◌<◌}
use native.Mathlib.Omega.{arith}
use lib.Dec.{eqb}
use lib.ListN.{get_or}
use Rattle.refusal.specs.Pick.{pick}
use Rattle.text.specs.Order.{cmp_nat, and_then, cmp_bytes}
use Rattle.std.specs.declared.cmp.Ordering.{Ordering}
use Rattle.std.specs.declared.cmp.Ordering.TheVariants.{Equal}
use Rattle.table.specs.Table.{cell_of, rows_of}
use Rattle.table.proofs.Laws.{cell-laid, length-rows}
use Rattle.sorting.specs.Keys.{row_order, name_of, file_of, row_marked}
use Rattle.keyed.specs.Keying.{key_order, wanted}
use Rattle.keyed.proofs.Missing.{row_of}
use Rattle.compat.specs.declared.keys.Key.{Key}
use Rattle.compat.specs.Keying.{key_cells, key_name, table_of}
use Rattle.compat.proofs.Filling.{key-wide}

-- the cell of a mark is 1 where it is set
one-told : (t : Bool) → eqb (pick t 1 0) 1 ≡ t
one-told true = refl
one-told false = refl

module _ (first second : List ℕ) where
  -- by the major number, the name, the minor number
  abbrev pub key_then : Key → Key → Ordering
  key_then k l =
      and_then (cmp_nat k.major l.major)
      (and_then (cmp_bytes (key_name first second k) (key_name first second l)) (and_then (cmp_nat k.minor l.minor) Equal))

  module _ (size : ℕ) (g : ℕ → Key) (n : ℕ) where
    cell-is : (i j : ℕ) → i < n → j < 6 → cell_of (table_of size g n) 6 i j ≡ get_or (key_cells (g i)) j 0
    cell-is i j h k =
        cell-laid key_cells 6 key-wide size (rows_of g n) i j (g i) (omega (arith, length-rows g n)) k
        ∙ ap (λ (r : Key). get_or (key_cells r) j 0) (row_of g n i (g i) h)

    pub order_is : (i j : ℕ) → i < n → j < n → key_order first second (table_of size g n) i j ≡ key_then (g i) (g j)
    unfolding key_order row_order name_of file_of key_name key_cells
    order_is i j h k =
        rw (
          cell-is i 0 h (omega arith),
          cell-is i 1 h (omega arith),
          cell-is i 2 h (omega arith),
          cell-is i 3 h (omega arith),
          cell-is i 4 h (omega arith),
          cell-is j 0 k (omega arith),
          cell-is j 1 k (omega arith),
          cell-is j 2 k (omega arith),
          cell-is j 3 k (omega arith),
          cell-is j 4 k (omega arith),
        )

    pub wanted-is : (i : ℕ) → i < n → wanted first second (table_of size g n) i ≡ (g i).wanted
    unfolding wanted row_marked key_cells
    wanted-is i h = rw (cell-is i 5 h (omega arith)) (one-told (g i).wanted)
