-- `parts::export_diff_name` meets its contract. Assumes nothing.
use Rattle.differences.proofs.Places.{changed-part}
use Rattle.differences.proofs.parts.export_diff_name.Goals as goal

pub returns : goal.returns
returns c = changed-part (λ m. m.exports) _ _ _ _ _ _ _ c.args.change c.args.row c.module_of-module.ensures c.part_of.ensures
