-- `cells::put_cells` meets its contract. Assumes nothing.
use native.Mathlib.Omega.{arith}
use Rattle.output.proofs.Putting.{puts-all, puts_none, cells_fit, cells-leave}
use Rattle.output.proofs.cells.put_cells.Goals as goal

pub returns-then-out-at : goal.returns-then-out-at
returns-then-out-at c = puts_none _ _ _ (omega arith)

pub returns-then-out-at-2 : goal.returns-then-out-at-2
returns-then-out-at-2 c = puts_none _ _ _ (cells-leave (omega arith) (omega arith))

pub put_all-requires : goal.put_all-requires
put_all-requires c = cells_fit (omega arith) (omega arith)

pub returns : goal.returns
returns c = puts-all _ _ _ (cells_fit (omega arith) c.if-out-at-2.false) c.put_all.ensures.value c.put_all.ensures.out_after
