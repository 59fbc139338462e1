use mathlib.Core.Path.{◌≡◌}
use Prim.Native.Nat.{◌≤◌}
use Rattle.output.specs.Writing.{Added}
use Rattle.reasons.specs.Reasons.{export_reasons}
use Rattle.reasons.proofs.put_exports.Given as goal

abbrev pub invariant-loop-i : goal.invariant-loop-i
invariant-loop-i l = (l.i ≤ l.xd.count) × (l.out.out.ghost_name ≡ l.initial.out.out.ghost_name)
    × Added l.initial.out (export_reasons l.baseline.file.now l.baseline.exports.cells.now l.xd.cells.now l.i) l.out
