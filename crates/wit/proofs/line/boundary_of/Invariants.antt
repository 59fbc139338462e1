use mathlib.Core.Path.{◌≡◌}
use Prim.Native.Nat.{◌+◌}
use lib.ListN.{drop}
use Rattle.text.specs.Find.{seek}
use Rattle.wit.specs.Line.{splits, boundary}
use Rattle.wit.proofs.line.boundary_of.Given as goal

abbrev pub invariant-loop-i : goal.invariant-loop-i
invariant-loop-i l = boundary l.s ≡ l.i + seek splits (drop l.i l.s)
