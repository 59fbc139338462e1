-- `put_check` meets its contract. Assumes nothing.
use Rattle.output.proofs.Writing.{added_then}
use Rattle.reviewed.proofs.put_check.Goals as goal

pub returns-clause-added : goal.returns-clause-added
returns-clause-added c = added_then c.put_domains.ensures.added (added_then c.put_compliance.ensures.added c.put_violations.ensures.added)
