-- `lines::put_named` meets its contract. Assumes nothing.
use Rattle.output.proofs.Writing.{added_then}
use Rattle.reviewed.specs.Texts.{name_text}
use Rattle.reviewed.proofs.lines.put_named.Goals as goal

pub returns-then-permit-clause-added : goal.returns-then-permit-clause-added
unfolding name_text
returns-then-permit-clause-added c =
    rw c.if-permit.true
    (added_then c.put.ensures.added (added_then c.put_quoted.ensures.added c.put-then-permit.ensures.added))

pub returns-else-permit-clause-added : goal.returns-else-permit-clause-added
unfolding name_text
returns-else-permit-clause-added c =
    rw c.if-permit.false
    (added_then c.put.ensures.added (added_then c.put_quoted.ensures.added c.put-else-permit.ensures.added))
