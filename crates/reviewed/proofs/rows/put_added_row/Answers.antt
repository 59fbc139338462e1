-- `rows::put_added_row` meets its contract. Assumes nothing.
use Rattle.output.proofs.Writing.{added_none}
use Rattle.reviewed.proofs.Telling.{added-same, no-added, added-some}
use Rattle.reviewed.proofs.rows.put_added_row.Goals as goal

pub returns-then-cell-eq-REMOVED-clause-added : goal.returns-then-cell-eq-REMOVED-clause-added
returns-then-cell-eq-REMOVED-clause-added c =
    let a = c.args in
    added-same (no-added a.candidate.file.now a.candidate.imports.cells.now a.cd.now a.i c.cell.ensures c.if-cell-eq-REMOVED.true)
    (added_none a.out.now)

pub returns-clause-added : goal.returns-clause-added
returns-clause-added c =
    let a = c.args in
    added-same
    (added-some a.candidate.file.now a.candidate.imports.cells.now a.cd.now a.i c.cell.ensures c.if-cell-eq-REMOVED.false
    c.cell-domain.ensures c.cell-row.ensures)
    c.put_added.ensures.added
