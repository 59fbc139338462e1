use Prim.Native.Nat.{◌+◌, ◌<◌}
use Rattle.text.specs.Steps.{Ran}
use Rattle.text.proofs.utf8.plain.Given as goal

abbrev pub invariant-loop-i : goal.invariant-loop-i
invariant-loop-i l = l.all < 0x80 → Ran l.s l.at (l.at + l.i)
