-- `lines::put_stand` meets its contract. Assumes nothing.
use Rattle.reviewed.specs.Texts.{stand_text}
use Rattle.reviewed.proofs.lines.put_stand.Goals as goal

pub returns-then-yes-clause-added : goal.returns-then-yes-clause-added
unfolding stand_text
returns-then-yes-clause-added c = rw c.if-yes.true c.put.ensures.added

pub returns-else-yes-clause-added : goal.returns-else-yes-clause-added
unfolding stand_text
returns-else-yes-clause-added c = rw c.if-yes.false c.put-else-yes.ensures.added
