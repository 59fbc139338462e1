use mathlib.Core.Path.{◌≡◌}
use Prim.Native.Nat.{◌≤◌}
use lib.ListN.{length}
use Rattle.table.specs.Table.{laid, cells, rows_of}
use Rattle.keyed.specs.Keying.{single}
use Rattle.keyed.specs.Rows.{mark_of}
use Rattle.keyed.proofs.rows.KeyRows.mark_found.Given as goal

abbrev pub invariant-loop-i : goal.invariant-loop-i
invariant-loop-i l = (l.i ≤ l.n) × (length l.found ≡ length l.initial.found)
    × (l.found ≡ laid (length l.initial.found) (cells single (rows_of (mark_of l.self l.nb l.n) l.i)))
