use mathlib.Core.Path.{◌≡◌}
use Prim.Native.Nat.{◌+◌}
use lib.ListN.{drop}
use Rattle.text.specs.Find.{index_of2}
use Rattle.text.proofs.find.find_pair.Given as goal

abbrev pub invariant-loop-i : goal.invariant-loop-i
invariant-loop-i l = index_of2 l.a l.b l.s ≡ l.i + index_of2 l.a l.b (drop l.i l.s)
