-- `next_token` meets its contract. Assumes nothing.
use Rattle.std.proofs.Common.{rules, sym, arith}
use Rattle.refusal.specs.Said.{follow}
use Rattle.policy_text.specs.Token.{next_token}
use Rattle.policy_text.proofs.TokenLaws.{list-fits, token-given}
use Rattle.policy_text.proofs.token.next_token.Goals as goal

pub returns-in_err-test_policy : goal.returns-in_err-test_policy
unfolding next_token follow
returns-in_err-test_policy c = search rules

pub overflow_add-end : goal.overflow_add-end
overflow_add-end c =
    let f = list-fits c.args.s.now c.args.p c.args.d (sym c.in_ok-test_policy.ensures) c.effective-rule.ensures in
    omega (arith, f)

pub token_at-requires : goal.token_at-requires
token_at-requires c = list-fits c.args.s.now c.args.p c.args.d (sym c.in_ok-test_policy.ensures) c.effective-rule.ensures

pub returns : goal.returns
returns c =
    let a = c.args in
    token-given a.s.now a.p a.d a.from (sym c.in_ok-test_policy.ensures) c.effective-rule.ensures c.clamp-at.ensures c.token_at.ensures
