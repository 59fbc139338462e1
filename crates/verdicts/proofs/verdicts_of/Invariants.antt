use Rattle.std.proofs.Common.{◌≡◌, ◌<◌, ℕ, get_or, length}
use Rattle.verdicts.specs.Evaluate.{verdict_for, no_verdict}
use Rattle.verdicts.proofs.verdicts_of.Given as goal

abbrev pub invariant-loop-d : goal.invariant-loop-d
invariant-loop-d l =
    (length l.verdicts ≡ 7) × ((k : ℕ) → k < l.d → get_or l.verdicts k no_verdict ≡ verdict_for l.p k (get_or l.many k 0))
