-- `table::clear` meets its contract: `fill` with 0. Assumes nothing.
use mathlib.Core.Path.{sym, ◌∙◌}
use Rattle.table.proofs.Laws.{laid_nil}
use Rattle.table.proofs.clear.Goals as goal

pub returns : goal.returns
returns c = c.fill.ensures.after (λ y e. e) ∙ sym (laid_nil _)
