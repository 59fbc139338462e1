use Prim.Native.Nat.{◌+◌, ◌*◌, ◌-◌, ◌≤◌}
use mathlib.Core.Path.{◌≡◌}
use lib.ListN.{length}
use Rattle.table.specs.Table.{put}
use Rattle.policy_text.specs.Token.{tokens_in}
use Rattle.listed.specs.Tokens.{tokens_bytes}
use Rattle.listed.proofs.tokens.put_tokens.Given as goal

abbrev pub invariant-loop-token : goal.invariant-loop-token
invariant-loop-token l = (l.o + length (tokens_in l.s l.i l.end) * 16 ≤ length l.initial.out)
    × (length l.out ≡ length l.initial.out)
    × (put l.out l.o (tokens_bytes (tokens_in l.s l.i l.end)) ≡ put l.initial.out 0 (tokens_bytes (tokens_in l.s l.from l.end)))

abbrev pub decreases-loop-token : goal.decreases-loop-token
decreases-loop-token l = l.end - l.i
