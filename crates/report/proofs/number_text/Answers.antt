-- `number_text` meets its contract. Assumes nothing.
use Rattle.report.specs.Line.{empty}
use Rattle.report.proofs.Lines.{then, whole}
use Rattle.report.proofs.number_text.Goals as goal

pub returns : goal.returns
returns c = whole _ (then empty _ _ c.begin-a.ensures c.add_number.ensures)
