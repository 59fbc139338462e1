-- `name_of` meets its contract. Assumes nothing.
use borrow.Author.Tests.{lt-ltb, le-ltb}
use Rattle.judged.specs.Compares.{name_told}
use Rattle.judged.proofs.compares.name_of.Goals as goal

pub returns-then-k-name : goal.returns-then-k-name
unfolding name_told
returns-then-k-name c = simp (lt-ltb _ _ c.if-k-name.true)

pub returns-else-k-name : goal.returns-else-k-name
unfolding name_told
returns-else-k-name c = simp (le-ltb _ _ c.if-k-name.false)
