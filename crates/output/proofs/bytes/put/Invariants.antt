use Rattle.std.specs.Prelude.{◌≡◌}
use Rattle.std.proofs.Math.Seq.{paste}
use Rattle.output.proofs.bytes.put.Given as goal

-- `out` is what it was, with the first j of the bytes from `at` on
abbrev pub invariant-loop-j : goal.invariant-loop-j
invariant-loop-j l = l.out ≡ paste l.initial.out l.at l.bytes l.j
