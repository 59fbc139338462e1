-- `viscrombal_token` meets its contract. Assumes nothing.
use mathlib.Core.Path.{◌∙◌, ap}
use Rattle.policy.specs.declared.Policy.{Policy}
use Rattle.told.specs.Policies.{token_told, token_asked}
use Rattle.policy_text.proofs.Asking.{read-stops, read_goes}
use Rattle.capi.proofs.policies.viscrombal_token.Goals as goal

pub returns-in-Ok : goal.returns-in-Ok
returns-in-Ok c =
    let g = c.args in
    c.token_for.ensures
    ∙ ap token_told (read_goes (λ (p : Policy). token_asked g.text.now p g.domain g.from) _ _ c.read_policy.ensures c.in-Ok.is)

pub returns-in-Err : goal.returns-in-Err
returns-in-Err c =
    let g = c.args in
    c.no_token.ensures ∙ rw (c.number.ensures, c.place.ensures)
    (ap token_told (read-stops (λ (p : Policy). token_asked g.text.now p g.domain g.from) _ _ c.read_policy.ensures c.in-Err.is))
