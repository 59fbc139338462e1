-- `violations` meets its contract. Assumes nothing.
use Rattle.std.proofs.Common.{map, true, false, ◌-◌, arith, ◌∙◌, sym}
use Rattle.verdicts.specs.Evaluate.{violates}
use Rattle.verdicts.proofs.MemberLaws.{set-none, set_next, with-bit}
use Rattle.verdicts.proofs.EvalLaws.{flag_at}
use Rattle.verdicts.proofs.violations.Goals.{then-is_violation, else-is_violation}
use Rattle.verdicts.proofs.violations.Goals as goal

pub loop-d-init : goal.loop-d-init
loop-d-init c = set-none (map violates c.args.verdicts)

pub loop-d-preserved : goal.loop-d-preserved
loop-d-preserved c =
    let vs = c.args.verdicts in
    let d = c.loop-d.d in
    let flag = c.is_violation.ensures ∙ flag_at vs d in
    elim c.if-is_violation.branch [
      | then-is_violation w ↦ set_next (map violates vs) d c.loop-d.set c.if-is_violation.set true
          (sym w.if-is_violation.true ∙ flag) c.loop-d.invariant
          (w.set-is ∙ with-bit 32 (32 - d) c.loop-d.set d (omega arith) (omega arith) c.loop-d.invariant.low)
      | else-is_violation w ↦ set_next (map violates vs) d c.loop-d.set c.if-is_violation.set false
          (sym w.if-is_violation.false ∙ flag) c.loop-d.invariant (omega (arith, w.set-is))
    ]
