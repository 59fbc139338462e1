-- `judged_domain` meets its contract. Assumes nothing.
use Prim.Native.Nat.{ℕ}
use mathlib.Core.Path.{sym, ◌∙◌, ap}
use Rattle.refusal.specs.Slug.{slug_of}
use Rattle.domains.specs.Domain.{found, slug}
use Rattle.policy_text.proofs.Asking.{no-domain, a-domain}
use Rattle.judged.specs.Compares.{word_told}
use Rattle.judged.proofs.words.judged_domain.Goals as goal

pub returns-in-None : goal.returns-in-None
returns-in-None c = no-domain _ _ _ (sym (ap found c.in-None.is) ∙ c.domain_of.ensures)

pub returns-in-Some : goal.returns-in-Some
returns-in-Some c =
    let d = sym (ap found c.in-Some.is) ∙ c.domain_of.ensures in
    let g = c.args in
    c.word_of.ensures ∙ ap (λ w. word_told w g.k) c.domain_slug.ensures
    ∙ a-domain _ _ (λ (n : ℕ). word_told (slug_of (slug n)) g.k) d
