use Prim.Native.Nat.{◌-◌}
use mathlib.Core.Path.{◌≡◌}
use mathlib.Core.List.{List}
use lib.ListN.{length}
use Rattle.table.specs.Table.{laid, cells}
use Rattle.table.specs.Shape.{capacity_in}
use Rattle.table.specs.Entries.{entries_from}
use Rattle.table.proofs.Reading.{Held}
use Rattle.wasm.proofs.rows.read_rows.Given as goal

abbrev pub invariant-loop : goal.invariant-loop
invariant-loop g l = ((rows : List g.row.R.Denot) → l.initial.table ≡ laid (length l.initial.table) (cells g.R.Row.row_cells rows)
    → l.have ≡ length rows
    → Held g.R.Row.row_cells (g.R.Row.entry_at l.payload l.base) g.R.Row.TABLE l.room
    (entries_from (g.R.Row.entry_at l.payload l.base) g.R.Row.TABLE (capacity_in g.R.Row.TABLE (length l.initial.table)) l.count
    l.initial.c.at rows)
    (length l.initial.table) l.table l.c.at (l.count - l.counter) l.k)
    × (length l.table ≡ length l.initial.table)
