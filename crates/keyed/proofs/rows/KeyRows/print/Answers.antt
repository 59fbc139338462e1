-- `KeyRows::print` meets its contract. Assumes nothing.
use Rattle.keyed.proofs.Printing.{print-at-is}
use Rattle.keyed.proofs.rows.KeyRows.print.Goals as goal

pub returns : goal.returns
returns c =
    print-at-is _ _ _ _ c.name.ensures c.name_print-name.ensures.0 c.cell.ensures c.stir-major.ensures.0 c.cell-2.ensures
    c.stir.ensures.0
