-- An answer is known by what its promise says of it, so no two satisfy it. Assumes nothing.
use Rattle.std.specs.Prelude.{Result, Ok, Err}
use mathlib.Core.Path.{◌≡◌, refl, sym, ap, ◌∙◌}
use Rattle.refusal.specs.Said.{Said, accepted, refused}
use Rattle.refusal.specs.declared.Refusal.{Refusal}
use Rattle.refusal.proofs.Known.{taken_back, refusal_of, known}
use Rattle.verdicts.specs.Evaluate.{Outcome, said_evaluation}
use Rattle.verdicts.specs.declared.Evaluation.{Evaluation}

pub evaluation-known : {d : Said Outcome} (x y : Result Evaluation Refusal) → said_evaluation x ≡ d → said_evaluation y ≡ d → x ≡ y
evaluation-known x y p q = taken_back again is x y (p ∙ sym q)
  where
    again : Said Outcome → Result Evaluation Refusal
    again (accepted o) = Ok (record { verdicts = o.verdicts; set = o.set; count = o.count })
    again (refused n p) = Err (refusal_of n p)

    is : (a : Result Evaluation Refusal) → again (said_evaluation a) ≡ a
    is (Ok e) = refl
    is (Err w) = ap Err (known w)
