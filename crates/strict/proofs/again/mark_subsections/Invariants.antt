use Prim.Native.Nat.{◌-◌}
use mathlib.Core.Path.{◌≡◌}
use Rattle.strict.specs.Again.{subsection_marks}
use Rattle.table.specs.Walking.{walk_from}
use lib.ListN.{length}
use Rattle.strict.proofs.again.mark_subsections.Given as goal

abbrev pub invariant-loop-c : goal.invariant-loop-c
invariant-loop-c l = walk_from (subsection_marks l.s) l.s l.c.at l.m ≡ walk_from (subsection_marks l.s) l.s l.initial.c.at l.initial.m

abbrev pub decreases-loop-c : goal.decreases-loop-c
decreases-loop-c l = length l.s - l.c.at
