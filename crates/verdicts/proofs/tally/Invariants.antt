use Rattle.std.proofs.Common.{◌≡◌, ◌+◌, map, take, drop}
use Rattle.verdicts.specs.Evaluate.{first_past}
use Rattle.verdicts.proofs.EvalLaws.{counts}
use Rattle.verdicts.proofs.tally.Given as goal

abbrev pub invariant-loop-i : goal.invariant-loop-i
invariant-loop-i g l =
    let ns = map g.R.Asking.number l.rows in
    (l.many ≡ counts (take l.i ns)) × (first_past ns ≡ l.i + first_past (drop l.i ns))
