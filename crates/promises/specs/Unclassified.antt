-- The registry's third question: an import that no rule names is held against the default. Assumes nothing.
use Rattle.std.specs.Prelude.{Ok, ℕ, ◌≡◌, List, get_or, take}
use Rattle.std.proofs.Common.{sym, ◌∙◌, ap}
use contract.Lifetimes.{Lfts}
use borrow.Fn.Kinds.{Dens, res_t, ended_of}
use denote.Triple.Clauses.{AtExit}
use Rattle.refusal.specs.Said.{Said, accepted, refused, follow}
use Rattle.refusal.proofs.Following.{never, one_value}
use Rattle.policy.specs.Eight.{slot_of}
use Rattle.verdicts.specs.Evaluate.{Outcome, outcome, outcome_in, evaluated, domains_test, effective_of, no_verdict}
use Rattle.policy.specs.declared.Policy.{Policy}
use Rattle.policy.specs.declared.Stance.TheVariants.{None}
use Rattle.verdicts.specs.declared.Verdict.{Verdict}
use Rattle.verdicts.specs.declared.Evaluation.{Evaluation}
use Rattle.verdicts.proofs.evaluate_domains.Kinds as evaluate-domains-kinds
use Rattle.verdicts.proofs.evaluate_domains.Reads as evaluate-domains

by_default : (ns : List ℕ) (n : ℕ) (p : Policy) (e : Evaluation) → accepted (outcome_in e) ≡ evaluated ns n p
    → (slot_of p 6).stance ≡ None → (get_or e.verdicts 6 no_verdict).allowed ≡ p.permit
unfolding evaluated outcome effective_of follow
by_default ns n p e k h = by (domains_test ns n) k where
  by : (t : Said (Unit {0})) → accepted (outcome_in e) ≡ follow t (λ ok. accepted (outcome p (take n ns)))
      → (get_or e.verdicts 6 no_verdict).allowed ≡ p.permit
  by (accepted u) q =
      let v : e.verdicts ≡ (outcome p (take n ns)).verdicts = ap (λ (o : Outcome). o.verdicts) (one_value q) in
      ap (λ (l : List Verdict). (get_or l 6 no_verdict).allowed) v ∙ rw (h, effective_of)
  by (refused m i) q = absurd (never (sym q))

-- where a policy has no rule for unknown, its verdict on imports that are classified as unknown is its default: under `default allow`
-- they are allowed
pub unknown-by-default : (κs : Lfts 1) (a : Dens κs evaluate-domains-kinds.ps) (e : Evaluation)
    (s : AtExit (ended_of 1 evaluate-domains-kinds.ps evaluate-domains-kinds.r) κs) → evaluate-domains.Post κs a (Ok e) s
    → (slot_of a.1.1.0 6).stance ≡ None → (get_or e.verdicts 6 no_verdict).allowed ≡ a.1.1.0.permit
unknown-by-default κs a e s p h = by_default a.0.now a.1.0 a.1.1.0 e p h
