-- docs/RULES.md, "Domains and verdicts": required domains held against a policy. Assumes nothing.
use Rattle.std.specs.Prelude.{Bool, true, false, not, List, [], ◌∷◌, ◌++◌, map, Result, Ok, Err}
use Rattle.std.specs.Prelude.{ℕ, zero, suc, ◌+◌, ◌*◌, ◌^◌, min, eqb, ltb, length, take, get_or}
use Rattle.refusal.specs.Pick.{pick, both, one_if}
use Rattle.refusal.specs.declared.Refusal.{Refusal}
use Rattle.refusal.specs.Said.{Said, accepted, refused, refused_by, follow, spot}
use Rattle.table.specs.Shape.{limit}
use Rattle.policy.specs.Eight.{slot_of}
use Rattle.policy.specs.declared.Policy.{Policy}
use Rattle.policy.specs.declared.Slot.{Slot}
use Rattle.policy.specs.declared.Stance.TheVariants.{None, Allow, Deny}
use Rattle.verdicts.specs.declared.Rule.{Rule}
use Rattle.verdicts.specs.declared.Verdict.{Verdict}
use Rattle.verdicts.specs.declared.Evaluation.{Evaluation}

-- the rule that holds for a slot: its own, or the default with no list
abbrev pub slot_rule : Bool → Slot → Rule
slot_rule t x = record { allow = t; from = x.from; len = x.len }

unfoldable pub effective_of : Policy → ℕ → Rule
effective_of p d =
    elim (slot_of p d).stance [
      | None ↦ record { allow = p.permit; from = 0; len = 0 }
      | Allow ↦ slot_rule true (slot_of p d)
      | Deny ↦ slot_rule false (slot_of p d)
    ]

-- how many of the numbers are d
unfoldable pub how_many : ℕ → List ℕ → ℕ
how_many d [] = 0
how_many d (x ∷ ns) = pick (eqb x d) (suc (how_many d ns)) (how_many d ns)

-- of domain d, required so many times
abbrev pub verdict_for : Policy → ℕ → ℕ → Verdict
verdict_for p d k = record { required = ltb 0 k; allowed = (effective_of p d).allow; many = k }

-- required and not allowed
abbrev pub violates : Verdict → Bool
violates v = both v.required (not v.allowed)

-- ---- sets of domains
-- bit d is 1 where d is a member, from bit k on
unfoldable pub bits : ℕ → List Bool → ℕ
bits k [] = 0
bits k (b ∷ bs) = one_if b * 2 ^ k + bits (suc k) bs

-- how many members
unfoldable pub members : List Bool → ℕ
members [] = 0
members (b ∷ bs) = one_if b + members bs

-- ---- the seven verdicts, the violating domains as a set, and how many they are
pub record Outcome : Type 0 where
  pub verdicts : List Verdict
  pub set : ℕ
  pub count : ℕ

abbrev pub seven_of : {A : Type 0} → (ℕ → A) → List A
seven_of f = f 0 ∷ f 1 ∷ f 2 ∷ f 3 ∷ f 4 ∷ f 5 ∷ f 6 ∷ []

abbrev pub outcome_by : List Verdict → Outcome
outcome_by vs = record { verdicts = vs; set = bits 0 (map violates vs); count = members (map violates vs) }

unfoldable pub outcome : Policy → List ℕ → Outcome
outcome p ns = outcome_by (seven_of (λ d. verdict_for p d (how_many d ns)))

-- ---- 15: the capacity where the count exceeds it, then the first row below the count with a number above 6
unfoldable pub first_past : List ℕ → ℕ
first_past [] = zero
first_past (x ∷ ns) = pick (ltb 6 x) zero (suc (first_past ns))

unfoldable pub domains_test : List ℕ → ℕ → Said (Unit {0})
domains_test ns n =
    pick (ltb (min (length ns) (limit 7)) n) (refused 15 (spot (min (length ns) (limit 7))))
    (pick (ltb (first_past (take n ns)) n) (refused 15 (spot (first_past (take n ns))))
    (accepted tt))

unfoldable pub evaluated : List ℕ → ℕ → Policy → Said Outcome
evaluated ns n p = follow (domains_test ns n) (λ ok. accepted (outcome p (take n ns)))

-- ---- what is answered: the verdicts, or the refusal
abbrev pub outcome_in : Evaluation → Outcome
outcome_in e = record { verdicts = e.verdicts; set = e.set; count = e.count }

abbrev pub said_evaluation : Result Evaluation Refusal → Said Outcome
said_evaluation (Ok e) = accepted (outcome_in e)
said_evaluation (Err why) = refused_by why

-- accepted, and no domain violates
abbrev pub compliant : Result Evaluation Refusal → Bool
compliant (Ok e) = eqb e.count 0
compliant (Err why) = false

-- ---- for those who tell of both in one struct: all zero after a refusal
abbrev pub no_verdict : Verdict
no_verdict = record { required = false; allowed = false; many = 0 }

unfoldable pub no_outcome : Outcome
no_outcome = record { verdicts = seven_of (λ d. no_verdict); set = 0; count = 0 }

abbrev pub outcome_of : Said Outcome → Outcome
outcome_of (accepted o) = o
outcome_of (refused n p) = no_outcome

-- ---- for the code: how many of the numbers are each domain's; 15 for the first that is none's
unfoldable pub tallied : List ℕ → Said (List ℕ)
tallied ns =
    pick (ltb (first_past ns) (length ns)) (refused 15 (spot (first_past ns))) (accepted (seven_of (λ d. how_many d ns)))

-- the first n flags
unfoldable pub firsts : ℕ → List Bool → List Bool
firsts zero fs = []
firsts (suc n) fs = firsts n fs ++ get_or fs n false ∷ []
