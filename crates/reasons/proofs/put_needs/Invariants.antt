use mathlib.Core.Path.{◌≡◌}
use Prim.Native.Nat.{◌≤◌}
use Rattle.output.specs.Writing.{Added}
use Rattle.reasons.specs.Reasons.{need_reasons}
use Rattle.reasons.proofs.put_needs.Given as goal

abbrev pub invariant-loop-i : goal.invariant-loop-i
invariant-loop-i l = (l.i ≤ l.cd.count) × (l.out.out.ghost_name ≡ l.initial.out.out.ghost_name)
    × Added l.initial.out (need_reasons l.candidate.file.now l.candidate.imports.cells.now l.cd.cells.now l.i) l.out
