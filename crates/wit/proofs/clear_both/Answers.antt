-- `clear_both` meets its contract. Assumes nothing.
use Rattle.table.specs.Table.{cells}
use Rattle.wit.specs.Manifest.{start}
use Rattle.wit.proofs.clear_both.Goals as goal

pub returns : goal.returns
unfolding start cells
returns c = record { worlds-are = c.clear.ensures; references-are = c.clear-2.ensures }
