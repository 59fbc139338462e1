-- `reasons::put_export_row` meets its contract. Assumes nothing.
use Rattle.output.proofs.Writing.{added_none}
use Rattle.reasons.proofs.Lines.{export-none, export-some, row-kind}
use Rattle.reasons.proofs.put_export_row.Goals as goal

pub returns-then-cell-ne-REMOVED-clause-added : goal.returns-then-cell-ne-REMOVED-clause-added
returns-then-cell-ne-REMOVED-clause-added c =
    let a = c.args in
    rw (export-none a.baseline.file.now a.baseline.exports.cells.now a.xd.now a.i c.cell.ensures c.if-cell-ne-REMOVED.true)
    (added_none a.out.now)

pub put_export-requires : goal.put_export-requires
put_export-requires c =
    let a = c.args in
    row-kind a.baseline.exports.cells.now a.xd.now a.i c.requires c.cell.ensures c.if-cell-ne-REMOVED.false c.cell-row.ensures

pub returns-clause-added : goal.returns-clause-added
returns-clause-added c =
    let a = c.args in
    rw (export-some a.baseline.file.now a.baseline.exports.cells.now a.xd.now a.i c.cell.ensures c.if-cell-ne-REMOVED.false
    c.cell-row.ensures)
    c.put_export.ensures.added
