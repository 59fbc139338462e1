-- `begin` meets its contract. Assumes nothing.
use Rattle.refusal.specs.Slug.{padded}
use Rattle.report.specs.Line.{empty}
use Rattle.report.proofs.line.begin.Goals as goal

pub returns : goal.returns
unfolding empty padded
returns c = c.add.ensures
