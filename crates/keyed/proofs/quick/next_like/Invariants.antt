use Prim.Native.Nat.{◌≤◌}
use Rattle.keyed.specs.Quick.{Unlike}
use Rattle.keyed.proofs.quick.next_like.Given as goal

abbrev pub invariant-loop-j : goal.invariant-loop-j
invariant-loop-j l = (l.from ≤ l.j) × (l.j ≤ l.to) × Unlike l.prints l.print l.from l.j
