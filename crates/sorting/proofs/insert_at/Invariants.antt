use mathlib.Core.Path.{◌≡◌}
use Prim.Native.Nat.{◌≤◌}
use Rattle.sorting.proofs.Places.{shifted}
use Rattle.sorting.proofs.insert_at.Given as goal

abbrev pub invariant-loop-j : goal.invariant-loop-j
invariant-loop-j l = (l.p ≤ l.j) × (l.sorted ≡ shifted l.initial.sorted l.j l.k)
