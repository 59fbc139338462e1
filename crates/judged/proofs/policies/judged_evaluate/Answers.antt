-- `judged_evaluate` meets its contract. Assumes nothing.
use mathlib.Core.Path.{◌∙◌}
use Rattle.judged.proofs.Telling.{evaluation-told}
use Rattle.judged.proofs.policies.judged_evaluate.Goals as goal

pub returns : goal.returns
returns c = c.evaluation_of.ensures ∙ evaluation-told _ _ _ _ _ c.policy_of-p.ensures c.evaluate_domains.ensures
