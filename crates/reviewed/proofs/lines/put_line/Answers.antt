-- `lines::put_line` meets its contract. Assumes nothing.
use Rattle.reviewed.proofs.Telling.{added-same}
use Rattle.reviewed.proofs.lines.put_line.Goals as goal

pub returns-clause-added : goal.returns-clause-added
returns-clause-added c = added-same c.range.ensures.0 c.put.ensures.added
