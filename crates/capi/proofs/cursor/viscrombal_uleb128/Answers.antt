-- `viscrombal_uleb128` meets its contract. Assumes nothing.
use mathlib.Core.Path.{◌∙◌, ap}
use Rattle.leb.specs.Answers.{finding_of}
use Rattle.leb.proofs.Answering.{heard-from}
use Rattle.told.specs.Reading.{unsigned_told}
use Rattle.capi.proofs.cursor.viscrombal_uleb128.Goals as goal

pub returns : goal.returns
returns c = c.unsigned_of.ensures ∙ ap unsigned_told (ap finding_of c.uleb128.ensures ∙ heard-from _ _)
