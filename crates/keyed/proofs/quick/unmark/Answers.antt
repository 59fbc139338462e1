-- `keyed::quick::unmark` meets its contract: the rows below i have lost their marks. Assumes nothing.
use mathlib.Core.Path.{◌∙◌}
use native.Mathlib.Omega.{arith}
use Rattle.keyed.proofs.Unmarking.{one_kept, one-taken}
use Rattle.keyed.proofs.quick.unmark.Goals.{then-cell-eq1, else-cell-eq1}
use Rattle.keyed.proofs.quick.unmark.Goals as goal

pub loop-i-preserved : goal.loop-i-preserved
loop-i-preserved c = (
  omega arith,
  elim c.if-cell-eq1.branch [
    | then-cell-eq1 w ↦ one-taken _ _ _ c.loop-i.invariant.1 c.cell.ensures w.if-cell-eq1.true (w.keys-is ∙ w.unmark_row.ensures)
    | else-cell-eq1 w ↦ rw w.keys-is (one_kept _ _ _ c.loop-i.invariant.1 c.cell.ensures w.if-cell-eq1.false)
  ],
)
