-- `reasons::put_need_row` meets its contract. Assumes nothing.
use Rattle.output.proofs.Writing.{added_none}
use Rattle.reasons.proofs.Lines.{need-none, need-some}
use Rattle.reasons.proofs.put_need_row.Goals as goal

pub returns-then-cell-eq-REMOVED-clause-added : goal.returns-then-cell-eq-REMOVED-clause-added
returns-then-cell-eq-REMOVED-clause-added c =
    let a = c.args in
    rw (need-none a.candidate.file.now a.candidate.imports.cells.now a.cd.now a.i c.cell.ensures c.if-cell-eq-REMOVED.true)
    (added_none a.out.now)

pub returns-clause-added : goal.returns-clause-added
returns-clause-added c =
    let a = c.args in
    rw (need-some a.candidate.file.now a.candidate.imports.cells.now a.cd.now a.i c.cell.ensures c.if-cell-eq-REMOVED.false
    c.cell-domain.ensures c.cell-row.ensures)
    c.put_need.ensures.added
