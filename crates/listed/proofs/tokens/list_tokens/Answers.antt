-- `list_tokens` meets its contract. Assumes nothing.
use native.Mathlib.Omega.{arith}
use mathlib.Core.Path.{refl, sym, ap, ◌∙◌}
use mathlib.Core.List.{[]}
use Rattle.domains.specs.Domain.{found}
use Rattle.listed.specs.Tokens.{tokens_bytes, tokens_told}
use Rattle.listed.proofs.Laying.{delivers-none}
use Rattle.listed.proofs.Listing.{put_last, tokens-laid, tokens-delivered, tokens-as, text-refused, text-none, text-rule}
use Rattle.listed.proofs.tokens.list_tokens.Goals as goal

pub returns-in-None : goal.returns-in-None
returns-in-None c =
    let none = sym (ap found c.in-None.is) ∙ c.domain_of.ensures in
    tokens-delivered [] (text-none _ _ _ c.read_policy.ensures c.in-Ok.is none)
    (tokens-laid [] _ refl refl (omega arith) (sym (put_last _ _)))

pub returns-in-Err : goal.returns-in-Err
returns-in-Err c = delivers-none tokens_bytes tokens_told (text-refused _ _ _ c.read_policy.ensures c.in-Err.is) c.no_tokens.ensures

pub returns-in-Some : goal.returns-in-Some
returns-in-Some c =
    let one = sym (ap found c.in-Some.is) ∙ c.domain_of.ensures in
    tokens-as (text-rule _ _ _ c.read_policy.ensures c.in-Ok.is one) c.list_rule.ensures
