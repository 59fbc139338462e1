-- `reference_rows::range_fits` meets its contract. Assumes nothing.
use Rattle.reference_rows.specs.Queries.{range_fits}
use Rattle.reference_rows.proofs.range_fits.Goals as goal

pub returns : goal.returns
unfolding range_fits
returns c = rw (c.fits.ensures, c.cell-from.ensures, c.cell-len.ensures)
