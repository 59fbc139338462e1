-- `viscrombal_sleb128` meets its contract. Assumes nothing.
use mathlib.Core.Path.{◌∙◌, ap}
use Rattle.leb.specs.Answers.{finding_of}
use Rattle.leb.proofs.Answering.{heard-from}
use Rattle.capi.specs.Reading.{signed_told}
use Rattle.capi.proofs.cursor.viscrombal_sleb128.Goals as goal

pub returns : goal.returns
returns c = c.signed_of.ensures ∙ ap signed_told (ap finding_of c.sleb128.ensures ∙ heard-from _ _)
