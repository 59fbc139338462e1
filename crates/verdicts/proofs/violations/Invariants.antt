use Rattle.std.proofs.Common.{map}
use Rattle.verdicts.specs.Evaluate.{violates}
use Rattle.verdicts.proofs.MemberLaws.{Set}
use Rattle.verdicts.proofs.violations.Given as goal

abbrev pub invariant-loop-d : goal.invariant-loop-d
invariant-loop-d l = Set (map violates l.verdicts) l.d l.set
