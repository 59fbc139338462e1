use Prim.Native.Nat.{◌+◌, ◌*◌}
use mathlib.Core.Path.{◌≡◌}
use lib.ListN.{length, drop}
use Rattle.table.specs.Table.{put}
use Rattle.output.specs.Cells.{cell_bytes}
use Rattle.output.proofs.cells.put_all.Given as goal

abbrev pub invariant-loop-cell : goal.invariant-loop-cell
invariant-loop-cell l =
    (l.o ≡ l.at + l.cell-index * 8)
    × (put l.out l.o (cell_bytes (drop l.cell-index l.cells)) ≡ put l.initial.out l.at (cell_bytes l.cells))
    × (length l.out ≡ length l.initial.out)
