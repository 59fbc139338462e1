-- `test_policy` meets its contract. Assumes nothing.
use Rattle.std.proofs.Common.{rules, sym, ◌∙◌}
use Rattle.refusal.specs.Said.{follow}
use Rattle.policy.specs.Eight.{policy_test}
use Rattle.policy.proofs.EightLaws.{said-row, said-none}
use Rattle.policy.proofs.ranges.test_policy.Goals as goal

pub returns-in_err-test_text : goal.returns-in_err-test_text
unfolding policy_test follow
returns-in_err-test_text c = search rules

pub returns-in-Some : goal.returns-in-Some
unfolding policy_test follow
returns-in-Some c = rw (← c.in_ok-test_text.ensures) (sym (said-row _ _ (sym c.first_bad.ensures ∙ c.in-Some.is)))

pub returns-in-None : goal.returns-in-None
unfolding policy_test follow
returns-in-None c = rw (← c.in_ok-test_text.ensures) (sym (said-none _ _ (sym c.first_bad.ensures ∙ c.in-None.is)))
