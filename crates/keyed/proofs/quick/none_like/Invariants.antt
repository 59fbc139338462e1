use mathlib.Core.Path.{◌≡◌}
use mathlib.Core.Bool.{false}
use Prim.Native.Nat.{◌+◌}
use Rattle.keyed.specs.Quick.{Unlike}
use Rattle.keyed.proofs.quick.none_like.Given as goal

abbrev pub invariant-loop-other : goal.invariant-loop-other
invariant-loop-other l = l.met ≡ false → Unlike l.prints l.print l.at (l.at + l.other-index)
