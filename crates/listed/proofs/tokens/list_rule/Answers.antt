-- `list_rule` meets its contract. Assumes nothing.
use native.Mathlib.Omega.{arith}
use Rattle.listed.specs.Tokens.{tokens_bytes, tokens_told}
use Rattle.listed.proofs.Laying.{delivers-none}
use Rattle.listed.proofs.Listing.{rule-refused, rule-short, rule-listed, tokens-delivered}
use Rattle.listed.proofs.tokens.list_rule.Goals as goal

pub overflow_add-end : goal.overflow_add-end
overflow_add-end c =
    let d = c.args.d in
    omega (arith, rule-short _ _ d c.test_policy.ensures c.in-Ok.is c.effective-rule.ensures)

pub lay_tokens-requires : goal.lay_tokens-requires
lay_tokens-requires c = rule-short _ _ c.args.d c.test_policy.ensures c.in-Ok.is c.effective-rule.ensures

pub returns-in-Err : goal.returns-in-Err
returns-in-Err c =
    let d = c.args.d in
    delivers-none tokens_bytes tokens_told (rule-refused _ _ d c.test_policy.ensures c.in-Err.is) c.no_tokens.ensures

pub returns-in-Ok : goal.returns-in-Ok
returns-in-Ok c =
    let d = c.args.d in
    tokens-delivered _ (rule-listed _ _ d c.test_policy.ensures c.in-Ok.is c.effective-rule.ensures)
    c.lay_tokens.ensures
