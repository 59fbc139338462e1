-- `lines::put_compliance` meets its contract. Assumes nothing.
use Rattle.output.proofs.Writing.{added_then}
use Rattle.reviewed.specs.Texts.{compliance_text}
use Rattle.reviewed.proofs.lines.put_compliance.Goals as goal

pub returns-then-fine-clause-added : goal.returns-then-fine-clause-added
unfolding compliance_text
returns-then-fine-clause-added c = rw c.if-fine.true c.put.ensures.added

pub returns-else-fine-clause-added : goal.returns-else-fine-clause-added
unfolding compliance_text
returns-else-fine-clause-added c =
    rw c.if-fine.false (added_then c.put-else-fine.ensures.added
    (added_then c.put_all_violated.ensures.added c.put-else-fine-2.ensures.added))
