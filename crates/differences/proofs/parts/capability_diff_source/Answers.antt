-- `parts::capability_diff_source` meets its contract. Assumes nothing.
use Rattle.differences.proofs.Places.{changed-part}
use Rattle.differences.proofs.parts.capability_diff_source.Goals as goal

pub returns : goal.returns
returns c = changed-part (λ m. m.imports) _ _ _ _ _ _ _ c.args.change c.args.row c.module_of-module.ensures c.part_of.ensures
