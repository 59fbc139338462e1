use mathlib.Core.Path.{◌≡◌}
use Prim.Native.Nat.{◌≤◌}
use lib.ListN.{length}
use Rattle.table.specs.Table.{laid, cells, rows_of}
use Rattle.keyed.specs.Keying.{single, lonely}
use Rattle.keyed.proofs.marks.mark_missing.Given as goal

abbrev pub invariant-loop-i : goal.invariant-loop-i
invariant-loop-i l = (l.i ≤ l.n) × (length l.lost ≡ length l.initial.lost)
    × (l.lost ≡ laid (length l.initial.lost) (cells single (rows_of (lonely l.ranks l.nb l.n) l.i)))
