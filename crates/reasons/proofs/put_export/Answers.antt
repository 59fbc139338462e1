-- `reasons::put_export` meets its contract. Assumes nothing.
use Rattle.output.proofs.Writing.{added_then}
use Rattle.reasons.proofs.Lines.{export-line}
use Rattle.reasons.proofs.put_export.Goals as goal

pub returns-clause-added : goal.returns-clause-added
returns-clause-added c =
    let a = c.args in
    rw (export-line a.baseline.file.now a.baseline.exports.cells.now a.i c.name-name.ensures.0 c.cell-kind.ensures)
    (added_then c.put.ensures.added
    (added_then c.put-2.ensures.added
    (added_then c.put-3.ensures.added
    (added_then c.put_kind.ensures.added c.put-4.ensures.added))))
