-- `put_against` meets its contract. Assumes nothing.
use mathlib.Core.Path.{◌∙◌}
use Rattle.output.proofs.Writing.{added_then}
use Rattle.reviewed.proofs.Reading.{compliant-is, verdicts-are, candidate-stops, candidate-goes}
use Rattle.reviewed.proofs.Telling.{added-same}
use Rattle.reviewed.proofs.put_against.Goals as goal

pub returns-in-Err-clause-added : goal.returns-in-Err-clause-added
returns-in-Err-clause-added c = added-same (candidate-stops _ c.read_build.ensures c.in-Err.is _ _) c.put_none.ensures.added

pub returns-in-Ok-clause-added : goal.returns-in-Ok-clause-added
returns-in-Ok-clause-added c =
    let checked = c.check_module-checked in
    added-same
    (candidate-goes _ c.read_build.ensures c.in-Ok.is _ _
    (c.is_compliant-fine.ensures ∙ compliant-is checked.result checked.ensures)
    (c.verdicts_of.ensures ∙ verdicts-are checked.result checked.ensures))
    (added_then c.put_check.ensures.added c.put_compared.ensures.added)
