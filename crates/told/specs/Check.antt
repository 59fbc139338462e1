-- docs/RULES.md, "Domains and verdicts": verdicts over the C interface; refused, all but number, place and the offset beside it is zero.
-- Assumes nothing.
use Rattle.std.specs.Prelude.{ℕ, Bool, false, List, [], ◌∷◌, eqb, get_or}
use Rattle.refusal.specs.Said.{Said, accepted, refused, number_at, beside_at}
use Rattle.verdicts.specs.Evaluate.{Outcome, no_verdict, no_outcome}
use Rattle.verdicts.specs.declared.Verdict.{Verdict}
use Rattle.told.specs.declared.check.VerdictTold.{VerdictTold}
use Rattle.told.specs.declared.check.EvaluationTold.{EvaluationTold}

abbrev pub verdict_told : Verdict → VerdictTold
verdict_told v = record { required = v.required; allowed = v.allowed; many = v.many }

abbrev pub evaluation_as : ℕ → ℕ → ℕ → List Verdict → ℕ → ℕ → Bool → EvaluationTold
evaluation_as n q o vs set count fine =
    record {
      number = n;
      place = q;
      offset = o;
      verdicts =
          verdict_told (get_or vs 0 no_verdict)
          ∷ verdict_told (get_or vs 1 no_verdict)
          ∷ verdict_told (get_or vs 2 no_verdict)
          ∷ verdict_told (get_or vs 3 no_verdict)
          ∷ verdict_told (get_or vs 4 no_verdict)
          ∷ verdict_told (get_or vs 5 no_verdict)
          ∷ verdict_told (get_or vs 6 no_verdict)
          ∷ [];
      set = set;
      count = count;
      compliant = fine;
    }

abbrev pub evaluation_told : Said Outcome → EvaluationTold
evaluation_told (accepted o) = evaluation_as 0 0 0 o.verdicts o.set o.count (eqb o.count 0)
evaluation_told (refused n q) = evaluation_as n (number_at q) (beside_at q) no_outcome.verdicts 0 0 false
