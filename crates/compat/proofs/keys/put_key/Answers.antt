-- `compat::keys::put_key` meets its contract. Assumes nothing.
use borrow.Author.Rules.{rules}
use Rattle.compat.specs.Keying.{key_cells}
use Rattle.compat.proofs.keys.put_key.Goals as goal

pub returns : goal.returns
unfolding key_cells
returns c = search rules
