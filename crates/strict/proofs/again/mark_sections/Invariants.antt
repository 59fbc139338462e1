use Prim.Native.Nat.{◌-◌}
use mathlib.Core.Path.{◌≡◌}
use Rattle.strict.specs.Again.{section_marks, marks_at}
use Rattle.table.specs.Walking.{walk_from}
use lib.ListN.{length}
use Rattle.strict.proofs.again.mark_sections.Given as goal

abbrev pub invariant-loop-c : goal.invariant-loop-c
invariant-loop-c l = walk_from (section_marks l.file) l.file l.c.at l.m ≡ marks_at l.file

abbrev pub decreases-loop-c : goal.decreases-loop-c
decreases-loop-c l = length l.file - l.c.at
