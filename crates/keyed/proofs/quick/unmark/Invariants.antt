use Prim.Native.Nat.{◌≤◌}
use Rattle.keyed.specs.Quick.{Unmarked}
use Rattle.keyed.proofs.quick.unmark.Given as goal

abbrev pub invariant-loop-i : goal.invariant-loop-i
invariant-loop-i l = (l.i ≤ l.n) × Unmarked l.initial.keys l.found l.i l.keys
