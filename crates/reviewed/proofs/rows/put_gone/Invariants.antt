use mathlib.Core.Path.{◌≡◌}
use Rattle.output.specs.Writing.{Added}
use Rattle.reasons.specs.Reasons.{reason_lines}
use Rattle.reviewed.specs.Review.{removed_row}
use Rattle.reviewed.proofs.rows.put_gone.Given as goal

abbrev pub invariant-loop-i : goal.invariant-loop-i
invariant-loop-i l =
    (l.out.out.ghost_name ≡ l.initial.out.out.ghost_name)
    × Added l.initial.out (reason_lines (removed_row l.baseline.file.now l.baseline.exports.cells.now l.xd.cells.now) l.i) l.out
