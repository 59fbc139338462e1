-- `put_line` meets its contract. Assumes nothing.
use Rattle.output.proofs.Writing.{added_then}
use Rattle.policy_text.proofs.put_line.Goals as goal

pub returns-clause-added : goal.returns-clause-added
returns-clause-added c =
    added_then c.put_stance.ensures.added
    (added_then c.put.ensures.added
    (added_then c.put_domain.ensures.added
    (added_then c.put_list.ensures.added c.put-2.ensures.added)))
