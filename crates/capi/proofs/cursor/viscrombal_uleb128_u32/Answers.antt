-- `viscrombal_uleb128_u32` meets its contract. Assumes nothing.
use mathlib.Core.Path.{◌∙◌, ap}
use Rattle.leb.specs.Answers.{finding_of}
use Rattle.leb.proofs.Answering.{heard-from}
use Rattle.told.specs.Reading.{unsigned_told}
use Rattle.capi.proofs.cursor.viscrombal_uleb128_u32.Goals as goal

pub returns : goal.returns
returns c = c.narrow_of.ensures ∙ ap unsigned_told (ap finding_of c.uleb128_u32.ensures ∙ heard-from _ _)
