use Prim.Native.Nat.{◌+◌, ◌-◌, ◌≤◌}
use mathlib.Core.Path.{◌≡◌}
use lib.ListN.{length}
use Rattle.policy_text.specs.Token.{tokens_in}
use Rattle.listed.proofs.tokens.count_tokens.Given as goal

abbrev pub invariant-loop-token : goal.invariant-loop-token
invariant-loop-token l =
    (l.n + l.from ≤ l.i) × (l.n ≤ l.end)
    × (l.n + length (tokens_in l.s l.i l.end) ≡ length (tokens_in l.s l.from l.end))

abbrev pub decreases-loop-token : goal.decreases-loop-token
decreases-loop-token l = l.end - l.i
