-- `compat::keys::export_key` meets its contract. Assumes nothing.
use Rattle.compat.proofs.Making.{export-key-is}
use Rattle.compat.proofs.keys.export_key.Goals as goal

pub returns : goal.returns
returns c = export-key-is _ _ _ c.cell.ensures c.cell-2.ensures c.cell-3.ensures c.kind_rank.ensures
