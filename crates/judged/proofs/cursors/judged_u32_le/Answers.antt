-- `judged_u32_le` meets its contract. Assumes nothing.
use mathlib.Core.Path.{◌∙◌, ap}
use Rattle.leb.specs.Answers.{finding_of}
use Rattle.leb.proofs.Answering.{heard-from}
use Rattle.told.specs.Reading.{unsigned_told}
use Rattle.judged.proofs.cursors.judged_u32_le.Goals as goal

pub returns : goal.returns
returns c = c.narrow_of.ensures ∙ ap unsigned_told (ap finding_of c.u32_le.ensures ∙ heard-from _ _)
