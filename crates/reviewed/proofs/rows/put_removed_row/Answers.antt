-- `rows::put_removed_row` meets its contract. Assumes nothing.
use Rattle.output.proofs.Writing.{added_none}
use Rattle.reviewed.proofs.Telling.{added-same, removed-none, removed-some}
use Rattle.reviewed.proofs.rows.put_removed_row.Goals as goal

pub returns-then-cell-ne-REMOVED-clause-added : goal.returns-then-cell-ne-REMOVED-clause-added
returns-then-cell-ne-REMOVED-clause-added c =
    let a = c.args in
    added-same (removed-none a.baseline.file.now a.baseline.exports.cells.now a.xd.now a.i c.cell.ensures c.if-cell-ne-REMOVED.true)
    (added_none a.out.now)

pub returns-clause-added : goal.returns-clause-added
returns-clause-added c =
    let a = c.args in
    added-same
    (removed-some a.baseline.file.now a.baseline.exports.cells.now a.xd.now a.i c.cell.ensures c.if-cell-ne-REMOVED.false c.cell-row.ensures)
    c.put_removed.ensures.added
