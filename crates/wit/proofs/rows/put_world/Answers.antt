-- `put_world` meets its contract. Assumes nothing.
use borrow.Author.Rules.{rules}
use Rattle.wit.specs.Manifest.{world_cells}
use Rattle.wit.proofs.rows.put_world.Goals as goal

pub returns : goal.returns
unfolding world_cells
returns c = search rules
