-- `viscrombal_name` meets its contract. Assumes nothing.
use mathlib.Core.Path.{◌∙◌, ap}
use Rattle.leb.specs.Answers.{finding_of}
use Rattle.leb.proofs.Answering.{heard-from}
use Rattle.told.specs.Reading.{range_told}
use Rattle.capi.proofs.cursor.viscrombal_name.Goals as goal

pub returns : goal.returns
returns c = c.range_of.ensures ∙ ap range_told (ap finding_of c.name.ensures ∙ heard-from _ _)
