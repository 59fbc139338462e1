use mathlib.Core.Path.{◌≡◌}
use Prim.Native.Nat.{◌+◌, ◌-◌}
use Rattle.text.specs.Piece.{bytes_between}
use Rattle.policy_text.specs.Token.{token_from}
use Rattle.policy_text.proofs.token.token_at.Given as goal

abbrev pub invariant-loop-i : goal.invariant-loop-i
invariant-loop-i l = token_from l.from 0 (bytes_between l.s l.from l.end) ≡ token_from l.i 0 (bytes_between l.s l.i l.end)

abbrev pub decreases-loop-i : goal.decreases-loop-i
decreases-loop-i l = l.end + 1 - l.i
