-- `rows::put_violation_row` meets its contract. Assumes nothing.
use mathlib.Core.Path.{◌∙◌}
use Rattle.output.proofs.Writing.{added_none}
use Rattle.reviewed.proofs.Telling.{added-same, no-function, no-violation, a-violation}
use Rattle.reviewed.proofs.rows.put_violation_row.Goals as goal

pub returns-then-cell-ne-FUNC-clause-added : goal.returns-then-cell-ne-FUNC-clause-added
returns-then-cell-ne-FUNC-clause-added c =
    let a = c.args in
    added-same (no-function a.candidate.file.now a.candidate.imports.cells.now a.verdicts a.i c.cell.ensures c.if-cell-ne-FUNC.true)
    (added_none a.out.now)

pub returns-then-not-violated-clause-added : goal.returns-then-not-violated-clause-added
returns-then-not-violated-clause-added c =
    let a = c.args in
    let s = c.name-source.ensures.0 in
    let f = c.name-field.ensures.0 in
    let d = rw (s, f) at c.classify_import-domain.ensures in
    added-same
    (no-violation a.candidate.file.now a.candidate.imports.cells.now a.verdicts a.i c.cell.ensures c.if-cell-ne-FUNC.false s f d
    c.violated.ensures c.if-not-violated.true)
    (added_none a.out.now)

pub returns-clause-added : goal.returns-clause-added
returns-clause-added c =
    let a = c.args in
    let s = c.name-source.ensures.0 in
    let f = c.name-field.ensures.0 in
    let d = rw (s, f) at c.classify_import-domain.ensures in
    added-same
    (a-violation a.candidate.file.now a.candidate.imports.cells.now a.verdicts a.i c.cell.ensures c.if-cell-ne-FUNC.false s f
    (c.domain_number.ensures ∙ d) (rw c.domain_number.ensures c.violated.ensures) c.if-not-violated.false)
    c.put_violation.ensures.added
