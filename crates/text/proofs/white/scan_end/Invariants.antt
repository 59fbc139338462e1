use mathlib.Core.Path.{◌≡◌}
use Prim.Native.Nat.{◌-◌, ◌≤◌}
use lib.ListN.{length, drop}
use Rattle.text.specs.Chars.{chars}
use Rattle.text.specs.Trim.{end_len, trim_end}
use Rattle.text.proofs.CharLaws.{ends}
use Rattle.text.proofs.white.scan_end.Given as goal

abbrev pub invariant-loop-at : goal.invariant-loop-at
invariant-loop-at l = (l.at ≤ length l.s) × (trim_end l.s ≡ ends l.last l.at (end_len (chars (drop l.at l.s))))

abbrev pub decreases-loop-at : goal.decreases-loop-at
decreases-loop-at l = length l.s - l.at
