-- `put_verdicts` meets its contract. Assumes nothing.
use Rattle.reviewed.proofs.Reading.{verdict-stops, verdict-goes}
use Rattle.reviewed.proofs.Telling.{added-same}
use Rattle.reviewed.proofs.put_verdicts.Goals as goal

pub returns-in-Err-clause-added : goal.returns-in-Err-clause-added
returns-in-Err-clause-added c = added-same (verdict-stops _ c.read_policy.ensures c.in-Err.is _ _) c.put_none.ensures.added

pub returns-in-Ok-clause-added : goal.returns-in-Ok-clause-added
returns-in-Ok-clause-added c = added-same (verdict-goes _ c.read_policy.ensures c.in-Ok.is _ _) c.put_builds.ensures.added
