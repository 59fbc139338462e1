-- No two answers satisfy the promise of any function of policy and of rewriting. Assumes nothing.
use Rattle.std.specs.Prelude.{◌≡◌, refl, Result}
use Rattle.std.proofs.Common.{sym, ◌∙◌}
use contract.Lifetimes.{Lfts}
use borrow.Fn.Kinds.{Dens, res_t, ended_of}
use denote.Triple.Clauses.{AtExit}
use Rattle.refusal.specs.declared.Refusal.{Refusal}
use Rattle.refusal.specs.Said.{refused_by}
use Rattle.refusal.proofs.Known.{result-known, taken_back}
use Rattle.domains.proofs.DomainLaws.{same-domain}
use Rattle.domains.proofs.Known.{found-known}
use Rattle.verdicts.specs.Evaluate.{Outcome, outcome_in, said_evaluation}
use Rattle.verdicts.specs.declared.Evaluation.{Evaluation}
use Rattle.verdicts.proofs.Known.{evaluation-known}
use Rattle.output.proofs.Known.{one_answer, one-output}
use Rattle.policy_text.proofs.Known.{token-known, found-known as found-text-known}
use Rattle.promises.specs.Decides.{Decides}
use Rattle.domains.proofs.domain_number.Kinds as domain-number-kinds
use Rattle.domains.proofs.domain_number.Reads as domain-number
use Rattle.domains.proofs.domain_of.Kinds as domain-of-kinds
use Rattle.domains.proofs.domain_of.Reads as domain-of
use Rattle.domains.proofs.domain_slug.Kinds as domain-slug-kinds
use Rattle.domains.proofs.domain_slug.Reads as domain-slug
use Rattle.domains.proofs.from_slug.Kinds as from-slug-kinds
use Rattle.domains.proofs.from_slug.Reads as from-slug
use Rattle.domains.proofs.classify.classify_import.Kinds as classify-import-kinds
use Rattle.domains.proofs.classify.classify_import.Reads as classify-import
use Rattle.domains.proofs.classify.classify_path.Kinds as classify-path-kinds
use Rattle.domains.proofs.classify.classify_path.Reads as classify-path
use Rattle.policy.proofs.ranges.test_policy.Kinds as test-policy-kinds
use Rattle.policy.proofs.ranges.test_policy.Reads as test-policy
use Rattle.policy.proofs.default_policy.Kinds as default-policy-kinds
use Rattle.policy.proofs.default_policy.Reads as default-policy
use Rattle.policy.proofs.read_policy.Kinds as read-policy-kinds
use Rattle.policy.proofs.read_policy.Reads as read-policy
use Rattle.verdicts.proofs.effective.Kinds as effective-kinds
use Rattle.verdicts.proofs.effective.Reads as effective
use Rattle.verdicts.proofs.is_violation.Kinds as is-violation-kinds
use Rattle.verdicts.proofs.is_violation.Reads as is-violation
use Rattle.verdicts.proofs.is_compliant.Kinds as is-compliant-kinds
use Rattle.verdicts.proofs.is_compliant.Reads as is-compliant
use Rattle.verdicts.proofs.judge.Kinds as judge-kinds
use Rattle.verdicts.proofs.judge.Reads as judge
use Rattle.verdicts.proofs.evaluate_domains.Kinds as evaluate-domains-kinds
use Rattle.verdicts.proofs.evaluate_domains.Reads as evaluate-domains
use Rattle.policy_text.proofs.token.next_token.Kinds as next-token-kinds
use Rattle.policy_text.proofs.token.next_token.Reads as next-token
use Rattle.policy_text.proofs.token.first_token.Kinds as first-token-kinds
use Rattle.policy_text.proofs.token.first_token.Reads as first-token
use Rattle.policy_text.proofs.write_policy.Kinds as write-policy-kinds
use Rattle.policy_text.proofs.write_policy.Reads as write-policy

-- an evaluation is known by its verdicts, its set and its count
outcome-known : (x y : Evaluation) → outcome_in x ≡ outcome_in y → x ≡ y
outcome-known = taken_back again (λ a. refl) where
  again : Outcome → Evaluation
  again o = record { verdicts = o.verdicts; set = o.set; count = o.count }

pub domain-number-decides : Decides domain-number-kinds.ps domain-number-kinds.r domain-number.Post
domain-number-decides κs a x y s t p q = p ∙ sym q

pub domain-of-decides : Decides domain-of-kinds.ps domain-of-kinds.r domain-of.Post
domain-of-decides κs a x y s t p q = found-known x y (p ∙ sym q)

pub domain-slug-decides : Decides domain-slug-kinds.ps domain-slug-kinds.r domain-slug.Post
domain-slug-decides κs a x y s t p q = p ∙ sym q

pub from-slug-decides : Decides from-slug-kinds.ps from-slug-kinds.r from-slug.Post
from-slug-decides κs a x y s t p q = found-known x y (p ∙ sym q)

pub classify-import-decides : Decides classify-import-kinds.ps classify-import-kinds.r classify-import.Post
classify-import-decides κs a x y s t p q = same-domain x y (p ∙ sym q)

pub classify-path-decides : Decides classify-path-kinds.ps classify-path-kinds.r classify-path.Post
classify-path-decides κs a x y s t p q = same-domain x y (p ∙ sym q)

pub test-policy-decides : Decides test-policy-kinds.ps test-policy-kinds.r test-policy.Post
test-policy-decides κs a x y s t p q = result-known x y (p ∙ sym q)

pub default-policy-decides : Decides default-policy-kinds.ps default-policy-kinds.r default-policy.Post
default-policy-decides κs a x y s t p q = p ∙ sym q

pub read-policy-decides : Decides read-policy-kinds.ps read-policy-kinds.r read-policy.Post
read-policy-decides κs a x y s t p q = result-known x y (p ∙ sym q)

pub effective-decides : Decides effective-kinds.ps effective-kinds.r effective.Post
effective-decides κs a x y s t p q = p ∙ sym q

pub is-violation-decides : Decides is-violation-kinds.ps is-violation-kinds.r is-violation.Post
is-violation-decides κs a x y s t p q = p ∙ sym q

pub is-compliant-decides : Decides is-compliant-kinds.ps is-compliant-kinds.r is-compliant.Post
is-compliant-decides κs a x y s t p q = p ∙ sym q

pub evaluate-domains-decides : Decides evaluate-domains-kinds.ps evaluate-domains-kinds.r evaluate-domains.Post
evaluate-domains-decides κs a x y s t p q = evaluation-known x y p q

-- no two answers are one refusal: no verdict stands beside it
pub refused-evaluation-decides : (why : Refusal) (x y : Result Evaluation Refusal)
    → said_evaluation x ≡ refused_by why → said_evaluation y ≡ refused_by why → x ≡ y
refused-evaluation-decides why x y p q = evaluation-known x y p q

pub judge-decides : Decides judge-kinds.ps judge-kinds.r judge.Post
judge-decides κs a x y s t p q = outcome-known x y (p ∙ sym q)

pub next-token-decides : Decides next-token-kinds.ps next-token-kinds.r next-token.Post
next-token-decides κs a x y s t p q = token-known x y (p ∙ sym q)

pub first-token-decides : Decides first-token-kinds.ps first-token-kinds.r first-token.Post
first-token-decides κs a x y s t p q = found-text-known x y (p ∙ sym q)

pub write-policy-decides : Decides write-policy-kinds.ps write-policy-kinds.r write-policy.Post
write-policy-decides κs a x y s t p q = one_answer p q

-- and one content of the buffer
pub write-policy-leaves : (κs : Lfts 2) (a : Dens κs write-policy-kinds.ps) (x y : (res_t write-policy-kinds.r κs).Denot)
    (s t : AtExit (ended_of 2 write-policy-kinds.ps write-policy-kinds.r) κs) → write-policy.Post κs a x s → write-policy.Post κs a y t
    → s.1.1.0.now ≡ t.1.1.0.now
write-policy-leaves κs a x y s t p q = one-output p q
