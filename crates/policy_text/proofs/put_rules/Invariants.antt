use Rattle.std.proofs.Common.{◌≡◌}
use Rattle.policy.specs.View.{seven}
use Rattle.policy_text.proofs.WriteLaws.{Turning}
use Rattle.policy_text.proofs.put_rules.Given as goal

abbrev pub invariant-loop-d : goal.invariant-loop-d
invariant-loop-d l = Turning l.s (seven l.fn.p) l.initial.out l.out l.d × (l.out.out.ghost_name ≡ l.initial.out.out.ghost_name)
