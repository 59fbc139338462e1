use Prim.Native.Nat.{◌-◌, ◌≤◌}
use Rattle.import_rows.proofs.Asking.{Numbered}
use Rattle.import_rows.proofs.desc_fits.Given as goal

abbrev pub invariant-loop-column : goal.invariant-loop-column
invariant-loop-column l = (5 ≤ l.column) × (l.column ≤ 11) × Numbered l.given l.imports l.i l.column

abbrev pub decreases-loop-column : goal.decreases-loop-column
decreases-loop-column l = 11 - l.column
