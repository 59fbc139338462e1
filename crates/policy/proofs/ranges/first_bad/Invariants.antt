use Rattle.std.proofs.Common.{◌≡◌, ◌+◌, drop}
use Rattle.policy.specs.Eight.{eight, first_bad}
use Rattle.policy.proofs.ranges.first_bad.Given as goal

abbrev pub invariant-loop-i : goal.invariant-loop-i
invariant-loop-i l = first_bad l.n (eight l.fn.p) ≡ l.i + first_bad l.n (drop l.i (eight l.fn.p))
