use mathlib.Core.Path.{◌≡◌}
use Rattle.output.specs.Writing.{Added}
use Rattle.reasons.specs.Reasons.{reason_lines}
use Rattle.reviewed.specs.Review.{added_row}
use Rattle.reviewed.proofs.rows.put_new.Given as goal

abbrev pub invariant-loop-i : goal.invariant-loop-i
invariant-loop-i l =
    (l.out.out.ghost_name ≡ l.initial.out.out.ghost_name)
    × Added l.initial.out (reason_lines (added_row l.candidate.file.now l.candidate.imports.cells.now l.cd.cells.now) l.i) l.out
