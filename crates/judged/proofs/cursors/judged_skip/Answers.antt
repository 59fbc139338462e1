-- `judged_skip` meets its contract. Assumes nothing.
use mathlib.Core.Path.{◌∙◌, ap}
use Rattle.leb.specs.Answers.{finding_of}
use Rattle.leb.proofs.Answering.{heard-from}
use Rattle.judged.specs.Cursors.{skip_told}
use Rattle.judged.proofs.cursors.judged_skip.Goals as goal

pub returns : goal.returns
returns c = c.skip_of.ensures ∙ ap skip_told (ap finding_of c.skip.ensures ∙ heard-from _ _)
