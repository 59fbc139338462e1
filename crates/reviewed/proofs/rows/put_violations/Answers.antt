-- `rows::put_violations` meets its contract. Assumes nothing.
use mathlib.Core.Path.{refl, ◌∙◌}
use native.Mathlib.Omega.{arith}
use Rattle.reasons.proofs.Lines.{lines-first, lines_next, lines-all}
use Rattle.reviewed.proofs.rows.put_violations.Goals as goal

pub loop-i-init : goal.loop-i-init
loop-i-init c = (refl, lines-first _ _)

pub loop-i-preserved : goal.loop-i-preserved
loop-i-preserved c = (
  c.put_violation_row.ensures.same_reference ∙ c.loop-i.invariant.0,
  lines_next _ _ c.loop-i.invariant.1 c.put_violation_row.ensures.added,
)

pub returns-clause-added : goal.returns-clause-added
returns-clause-added c = lines-all _ c.loop-i.invariant.1 (omega arith)
