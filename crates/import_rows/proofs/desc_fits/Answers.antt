-- `import_rows::desc_fits` meets its contract: a walk over columns. Assumes nothing.
use native.Mathlib.Omega.{arith}
use Rattle.import_rows.proofs.Asking.{mark-out, mark-in, number-out, number_in, numbers-in}
use Rattle.import_rows.proofs.desc_fits.Goals as goal

pub returns-then-cell-given : goal.returns-then-cell-given
returns-then-cell-given c = mark-out _ _ c.cell.ensures c.cell-2.ensures c.given_of-given.ensures c.cell-3.ensures c.if-cell-given.true

pub loop-column-init : goal.loop-column-init
loop-column-init c = (
  omega arith,
  omega arith,
  mark-in _ _ c.cell.ensures c.cell-2.ensures c.given_of-given.ensures c.cell-3.ensures c.if-cell-given.false,
)

pub returns-then-not-number_fits : goal.returns-then-not-number_fits
returns-then-not-number_fits c =
    number-out c.loop-column.invariant.2 c.loop-column-test.true c.number_fits.ensures c.if-not-number_fits.true

pub loop-column-preserved : goal.loop-column-preserved
loop-column-preserved c = (
  omega arith,
  omega arith,
  number_in c.loop-column.invariant.2 c.loop-column-test.true c.number_fits.ensures c.if-not-number_fits.false,
)

pub returns : goal.returns
returns c = numbers-in c.loop-column.invariant.2 c.loop-column-test.false
