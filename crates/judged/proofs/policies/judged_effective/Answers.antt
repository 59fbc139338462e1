-- `judged_effective` meets its contract. Assumes nothing.
use Prim.Native.Nat.{ℕ}
use mathlib.Core.Path.{sym, ◌∙◌, ap}
use Rattle.domains.specs.Domain.{found}
use Rattle.verdicts.specs.Evaluate.{effective_of}
use Rattle.policy_text.proofs.Asking.{no-domain, a-domain}
use Rattle.judged.specs.Policies.{policy_in, effective_told}
use Rattle.judged.proofs.policies.judged_effective.Goals as goal

pub returns-in-None : goal.returns-in-None
returns-in-None c = no-domain _ _ _ (sym (ap found c.in-None.is) ∙ c.domain_of.ensures)

pub returns-in-Some : goal.returns-in-Some
returns-in-Some c =
    let d = sym (ap found c.in-Some.is) ∙ c.domain_of.ensures in
    let q = c.policy_of-p.ensures in
    let g = c.args in
    c.rule_of.ensures ∙ ap effective_told (rw q at c.effective.ensures)
    ∙ a-domain _ _ (λ (n : ℕ). effective_told (effective_of (policy_in g.cells.now) n)) d
