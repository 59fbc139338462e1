use mathlib.Core.Path.{◌≡◌}
use Prim.Native.Nat.{◌≤◌}
use lib.ListN.{length}
use Rattle.table.specs.Table.{laid, cells, rows_of}
use Rattle.keyed.specs.Keying.{single}
use Rattle.keyed.specs.Rows.{print_of}
use Rattle.keyed.proofs.rows.KeyRows.fill_prints.Given as goal

abbrev pub invariant-loop-i : goal.invariant-loop-i
invariant-loop-i l = (l.i ≤ l.n) × (length l.prints ≡ length l.initial.prints)
    × (l.prints ≡ laid (length l.initial.prints) (cells single (rows_of (print_of l.self) l.i)))
