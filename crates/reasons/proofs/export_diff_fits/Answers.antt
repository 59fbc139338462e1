-- `reasons::export_diff_fits` meets its contract. Assumes nothing.
use Rattle.reasons.proofs.Testing.{export-fits}
use Rattle.reasons.proofs.export_diff_fits.Goals as goal

pub returns : goal.returns
returns c = export-fits _ _ _ _ c.cell.ensures c.cell-2.ensures c.side.ensures
