-- `put_rules` meets its contract. Assumes nothing.
use Rattle.std.proofs.Common.{get_or, arith, refl, ◌∙◌}
use Rattle.policy.specs.View.{seven}
use Rattle.policy.specs.Eight.{no_slot}
use Rattle.policy_text.proofs.WriteLaws.{turning-first, turning-next, turning-last, seven-next, seven-end}
use Rattle.policy_text.proofs.put_rules.Goals as goal

pub loop-d-init : goal.loop-d-init
loop-d-init c =
    let a = c.args in
    (turning-first a.s.now (seven a.p) a.out.now, refl)

pub loop-d-preserved : goal.loop-d-preserved
loop-d-preserved c =
    let a = c.args in
    let d = c.loop-d.d in
    let i = c.loop-d.invariant in (
      turning-next i.0 (get_or a.p.rules d no_slot) (seven-next a.p d (omega arith)) c.put_rule.ensures.added,
      c.put_rule.ensures.same_reference ∙ i.1,
    )

pub returns-clause-added : goal.returns-clause-added
returns-clause-added c = turning-last c.loop-d.invariant.0 (seven-end c.args.p c.loop-d.d (omega arith))
