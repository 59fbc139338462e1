-- `strict::rules::sorted_differ` meets its contract. Assumes nothing.
use mathlib.Core.Path.{refl, ◌∙◌}
use Rattle.strict.proofs.Differing.{differ-sorted}
use Rattle.strict.proofs.rules.sorted_differ.Goals as goal

pub returns : goal.returns
returns c = c.eq.ensures ∙ differ-sorted _ _ _ _ _ _ refl c.requires (rw c.by_name.ensures at c.sort-left.ensures)
