-- `evaluation_of` meets its contract. Assumes nothing.
use Rattle.std.proofs.Common.{rules, ◌≡◌, get_or, ℕ, ◌<◌}
use Rattle.verdicts.specs.Evaluate.{no_verdict, no_outcome}
use Rattle.told.specs.declared.check.VerdictTold.{VerdictTold}
use Rattle.told.specs.Check.{verdict_told}
use Rattle.told.proofs.Telling.{told-of}
use Rattle.told.proofs.check.evaluation_of.Goals as goal

pub returns-in-Ok : goal.returns-in-Ok
returns-in-Ok c =
    let vs = c.in-Ok.told.verdicts in
    let each : (k : ℕ) (e : VerdictTold) → k < 7 → get_or c.map.result k e ≡ verdict_told (get_or vs k no_verdict) =
    λ k e l. (let h = c.map.ensures.items.at k no_verdict e l in search rules) in
    let v = told-of (λ k. verdict_told (get_or vs k no_verdict)) 7 c.map.result c.map.ensures.items.long each in
    rw (c.in-Ok.is, v, c.is_compliant.ensures)

pub returns-in-Err : goal.returns-in-Err
unfolding no_outcome
returns-in-Err c = rw (c.in-Err.is, c.number.ensures, c.place.ensures, c.beside.ensures)
