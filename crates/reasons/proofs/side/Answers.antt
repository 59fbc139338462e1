-- `reasons::side` meets its contract. Assumes nothing.
use borrow.Author.Tests.{eq-eqb, ne_eqb}
use Rattle.reasons.proofs.side.Goals as goal

pub returns-then-change-eq-REMOVED : goal.returns-then-change-eq-REMOVED
returns-then-change-eq-REMOVED c = rw (eq-eqb _ _ c.if-change-eq-REMOVED.true)

pub returns-else-change-eq-REMOVED : goal.returns-else-change-eq-REMOVED
returns-else-change-eq-REMOVED c = rw (ne_eqb _ _ c.if-change-eq-REMOVED.false)
