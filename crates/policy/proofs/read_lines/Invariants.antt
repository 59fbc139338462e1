use mathlib.Core.Path.{◌≡◌}
use Prim.Native.Nat.{◌+◌, ◌-◌, ◌≤◌}
use lib.ListN.{length, drop}
use Rattle.policy.specs.Piece.{lines_from, lines_of}
use Rattle.policy.specs.Reader.{run, obey, zero_policy}
use Rattle.policy.proofs.read_lines.Given as goal

abbrev pub invariant-loop-at : goal.invariant-loop-at
invariant-loop-at l = (l.at ≤ length l.s) × (l.line ≤ l.at + 1)
    × (run obey 1 zero_policy (lines_of l.s) ≡ run obey l.line l.policy (lines_from l.at 0 (drop l.at l.s)))

abbrev pub decreases-loop-at : goal.decreases-loop-at
decreases-loop-at l = length l.s - l.at
