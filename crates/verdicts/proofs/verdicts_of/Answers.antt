-- `verdicts_of` meets its contract. Assumes nothing.
use Rattle.std.proofs.Common.{get_or, arith}
use Rattle.std.proofs.lemmas.List.FromFn.{fill_by_all}
use Rattle.verdicts.specs.Evaluate.{verdict_for, no_verdict}
use Rattle.verdicts.proofs.verdicts_of.Goals as goal

pub returns : goal.returns
returns c =
    let a = c.args in
    fill_by_all (λ d. verdict_for a.p d (get_or a.many d 0)) c.loop-d.verdicts 7 no_verdict c.loop-d.invariant.0
    (λ k h. c.loop-d.invariant.1 k (omega arith))
