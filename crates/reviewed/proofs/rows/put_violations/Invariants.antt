use mathlib.Core.Path.{◌≡◌}
use Rattle.output.specs.Writing.{Added}
use Rattle.reasons.specs.Reasons.{reason_lines}
use Rattle.reviewed.specs.Review.{violation_row}
use Rattle.reviewed.proofs.rows.put_violations.Given as goal

abbrev pub invariant-loop-i : goal.invariant-loop-i
invariant-loop-i l =
    (l.out.out.ghost_name ≡ l.initial.out.out.ghost_name)
    × Added l.initial.out (reason_lines (violation_row l.candidate.file.now l.candidate.imports.cells.now l.verdicts) l.i) l.out
