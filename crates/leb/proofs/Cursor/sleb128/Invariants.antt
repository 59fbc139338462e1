use mir.Syntax.{w64}
use mir.Val.{of_z}
use Prim.Native.Nat.{◌-◌}
use Rattle.leb.proofs.Signed.{SReading}
use Rattle.leb.proofs.Cursor.sleb128.Given as goal

abbrev pub invariant-loop-shift : goal.invariant-loop-shift
invariant-loop-shift l = SReading l.s l.start l.i l.shift (of_z w64 l.signed)

abbrev pub decreases-loop-shift : goal.decreases-loop-shift
decreases-loop-shift l = 70 - l.shift
