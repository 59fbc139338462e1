-- `viscrombal_policy` meets its contract. Assumes nothing.
use mathlib.Core.Path.{sym, ◌∙◌, ap}
use Rattle.refusal.specs.Said.{said_by}
use Rattle.capi.specs.Policies.{policy_told}
use Rattle.capi.proofs.policies.viscrombal_policy.Goals as goal

pub returns-in-Ok : goal.returns-in-Ok
returns-in-Ok c = c.show.ensures ∙ ap policy_told (sym (ap said_by c.in-Ok.is) ∙ c.read_policy.ensures)

pub returns-in-Err : goal.returns-in-Err
returns-in-Err c =
    c.show-in-Err.ensures ∙ rw (c.number.ensures, c.place.ensures, c.default_policy.ensures)
    (ap policy_told (sym (ap said_by c.in-Err.is) ∙ c.read_policy.ensures))
