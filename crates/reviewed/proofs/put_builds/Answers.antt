-- `put_builds` meets its contract. Assumes nothing.
use Rattle.reviewed.proofs.Reading.{baseline-stops, baseline-goes}
use Rattle.reviewed.proofs.Telling.{added-same}
use Rattle.reviewed.proofs.put_builds.Goals as goal

pub returns-in-Err-clause-added : goal.returns-in-Err-clause-added
returns-in-Err-clause-added c = added-same (baseline-stops _ c.read_build.ensures c.in-Err.is _ _) c.put_none.ensures.added

pub returns-in-Ok-clause-added : goal.returns-in-Ok-clause-added
returns-in-Ok-clause-added c = added-same (baseline-goes _ c.read_build.ensures c.in-Ok.is _ _) c.put_against.ensures.added
