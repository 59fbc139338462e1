use Rattle.std.proofs.Common.{◌≡◌}
use Prim.Native.Nat.{◌+◌, ◌-◌, ◌≤◌}
use lib.ListN.{length}
use Rattle.policy_text.proofs.WriteLaws.{Going}
use Rattle.policy_text.proofs.put_list.Given as goal

abbrev pub invariant-loop-i : goal.invariant-loop-i
invariant-loop-i l =
    (l.i ≤ length l.list + 1) × Going l.list 0 (length l.list) l.initial.out l.out l.i l.some
    × (l.out.out.ghost_name ≡ l.initial.out.out.ghost_name)

abbrev pub decreases-loop-i : goal.decreases-loop-i
decreases-loop-i l = length l.list + 1 - l.i
