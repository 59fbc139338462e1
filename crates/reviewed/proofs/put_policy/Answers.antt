-- `put_policy` meets its contract. Assumes nothing.
use Rattle.reviewed.proofs.Reading.{policy-stops, policy-goes}
use Rattle.reviewed.proofs.Telling.{added-same}
use Rattle.reviewed.proofs.put_policy.Goals as goal

pub returns-in-Err-clause-added : goal.returns-in-Err-clause-added
returns-in-Err-clause-added c = added-same (policy-stops _ c.read_policy.ensures c.in-Err.is) c.put_reason.ensures.added

pub returns-in-Ok-clause-added : goal.returns-in-Ok-clause-added
returns-in-Ok-clause-added c = added-same (policy-goes _ c.read_policy.ensures c.in-Ok.is) c.put_name.ensures.added
