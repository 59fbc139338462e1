use Prim.Native.Nat.{◌-◌}
use Rattle.leb.proofs.Unsigned.{Reading}
use Rattle.leb.proofs.Cursor.uleb128.Given as goal

abbrev pub invariant-loop-shift : goal.invariant-loop-shift
invariant-loop-shift l = Reading l.s l.start l.i l.shift l.acc

abbrev pub decreases-loop-shift : goal.decreases-loop-shift
decreases-loop-shift l = 70 - l.shift
