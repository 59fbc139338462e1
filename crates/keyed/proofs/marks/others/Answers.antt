-- `keyed::marks::others` meets its contract. Assumes nothing.
use Rattle.keyed.proofs.Searching.{others-first, others-second}
use Rattle.keyed.proofs.marks.others.Goals as goal

pub returns-then-i-nb : goal.returns-then-i-nb
returns-then-i-nb c = others-first _ _ _ c.if-i-nb.true

pub returns-else-i-nb : goal.returns-else-i-nb
returns-else-i-nb c = others-second _ _ _ c.if-i-nb.false
