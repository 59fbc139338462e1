-- `KeyRows::same_key` meets its contract. Assumes nothing.
use mathlib.Core.Path.{sym, ◌∙◌}
use borrow.Author.Tests.{eqb-true, eqb-false}
use Rattle.keyed.proofs.Sameness.{before-differ, after-differ, names-decide, equal-is}
use Rattle.keyed.proofs.rows.KeyRows.same_key.Goals.{then-cell, else-cell}
use Rattle.keyed.proofs.rows.KeyRows.same_key.Goals as goal

pub returns-then-cell-2 : goal.returns-then-cell-2
returns-then-cell-2 c =
    elim c.if-cell.branch [
      | then-cell w ↦
          names-decide _ _ _ _ _ c.cell.ensures c.cell-2.ensures w.if-cell.true w.cell-then-cell.ensures w.cell-then-cell-2.ensures
          (eqb-true _ _ (sym w.value-is ∙ c.if-cell-2.true)) c.name.ensures c.name-then-cell-2.ensures (c.eq.ensures ∙ equal-is _ _)
      | else-cell w ↦ absurd (w.if-cell.false (eqb-true _ _ (sym w.value-is ∙ c.if-cell-2.true)))
    ]

pub returns-else-cell-2 : goal.returns-else-cell-2
returns-else-cell-2 c =
    c.if-cell-2.false
    ∙ elim c.if-cell.branch [
      | then-cell w ↦
          after-differ _ _ _ _ _ c.cell.ensures c.cell-2.ensures w.if-cell.true w.cell-then-cell.ensures w.cell-then-cell-2.ensures
          (eqb-false _ _ (sym w.value-is ∙ c.if-cell-2.false))
      | else-cell w ↦ before-differ _ _ _ _ _ c.cell.ensures c.cell-2.ensures w.if-cell.false
    ]
