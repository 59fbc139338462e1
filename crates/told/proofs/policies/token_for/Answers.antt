-- `token_for` meets its contract. Assumes nothing.
use Prim.Native.Nat.{ℕ}
use mathlib.Core.Path.{sym, ◌∙◌, ap}
use Rattle.domains.specs.Domain.{found}
use Rattle.told.specs.Policies.{token_told}
use Rattle.policy_text.specs.Token.{next_token}
use Rattle.policy_text.proofs.Asking.{no-domain, a-domain}
use Rattle.told.proofs.policies.token_for.Goals as goal

pub returns-in-None : goal.returns-in-None
returns-in-None c = c.no_token.ensures ∙ ap token_told (no-domain _ _ _ (sym (ap found c.in-None.is) ∙ c.domain_of.ensures))

pub returns-in-Some : goal.returns-in-Some
returns-in-Some c =
    let d = sym (ap found c.in-Some.is) ∙ c.domain_of.ensures in
    let g = c.args in
    c.token_of.ensures ∙ ap token_told
    (c.next_token.ensures ∙ a-domain _ _ (λ (n : ℕ). next_token g.text.now g.p n g.from) d)
