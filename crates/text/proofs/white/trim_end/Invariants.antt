use mathlib.Core.Path.{◌≡◌}
use lib.ListN.{take}
use Rattle.text.specs.Trim.{trim_end}
use Rattle.text.proofs.white.trim_end.Given as goal

abbrev pub invariant-loop-i : goal.invariant-loop-i
invariant-loop-i l = trim_end l.s ≡ trim_end (take l.i l.s)
