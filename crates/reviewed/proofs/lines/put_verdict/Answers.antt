-- `lines::put_verdict` meets its contract. Assumes nothing.
use Rattle.reviewed.proofs.Telling.{added-same}
use Rattle.reviewed.proofs.lines.put_verdict.Goals as goal

pub returns-clause-added : goal.returns-clause-added
returns-clause-added c = added-same c.verdict_line.ensures c.put.ensures.added
