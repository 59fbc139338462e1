-- `judge` meets its contract. Assumes nothing.
use Rattle.std.proofs.Common.{refl}
use Rattle.verdicts.proofs.EvalLaws.{judge-as}
use Rattle.verdicts.proofs.judge.Goals as goal

pub returns : goal.returns
returns c =
    let e = c.violations-set.ensures in
    judge-as c.args.p c.args.many c.verdicts_of-verdicts.ensures e.0 e.1 refl
