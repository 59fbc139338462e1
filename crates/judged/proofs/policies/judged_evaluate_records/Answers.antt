-- `judged_evaluate_records` meets its contract. Assumes nothing.
use mathlib.Core.Path.{◌∙◌, ap}
use Rattle.told.specs.Check.{evaluation_told}
use Rattle.judged.proofs.policies.judged_evaluate_records.Goals as goal

pub returns : goal.returns
returns c = c.evaluation_of.ensures ∙ ap evaluation_told (rw c.policy_of-p.ensures at c.evaluate.ensures)
