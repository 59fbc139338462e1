-- `put_build` meets its contract. Assumes nothing.
use Rattle.reviewed.proofs.Reading.{counts-stops, counts-goes}
use Rattle.reviewed.proofs.Telling.{added-same}
use Rattle.reviewed.proofs.put_build.Goals as goal

pub returns-in-Err-clause-added : goal.returns-in-Err-clause-added
returns-in-Err-clause-added c = added-same (counts-stops _ c.read_build.ensures c.in-Err.is) c.put_reason.ensures.added

pub returns-in-Ok-clause-added : goal.returns-in-Ok-clause-added
returns-in-Ok-clause-added c = added-same (counts-goes _ c.read_build.ensures c.in-Ok.is) c.put_counts.ensures.added
