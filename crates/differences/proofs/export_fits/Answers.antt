-- `differences::export_fits` meets its contract. Assumes nothing.
use mathlib.Core.Path.{◌∙◌}
use Rattle.differences.proofs.Tests.{name_out, name_in}
use Rattle.differences.proofs.export_fits.Goals as goal

pub returns-then-fits : goal.returns-then-fits
returns-then-fits c = name_in _ _ _ c.cell-from.ensures c.cell-len.ensures c.fits.ensures c.if-fits.true c.cell.ensures

pub returns-else-fits : goal.returns-else-fits
returns-else-fits c = c.if-fits.false ∙ name_out _ _ _ c.cell-from.ensures c.cell-len.ensures c.fits.ensures c.if-fits.false
