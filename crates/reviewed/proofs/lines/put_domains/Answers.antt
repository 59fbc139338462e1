-- `lines::put_domains` meets its contract. Assumes nothing.
use mathlib.Core.Path.{refl, ◌∙◌}
use native.Mathlib.Omega.{arith}
use Rattle.reasons.proofs.Lines.{lines-first, lines_next, lines-all}
use Rattle.reviewed.proofs.lines.put_domains.Goals as goal

pub loop-d-init : goal.loop-d-init
loop-d-init c = (refl, lines-first _ _)

pub loop-d-preserved : goal.loop-d-preserved
loop-d-preserved c = (
  c.put_verdict_of.ensures.same_reference ∙ c.loop-d.invariant.0,
  lines_next _ _ c.loop-d.invariant.1 c.put_verdict_of.ensures.added,
)

pub returns-clause-added : goal.returns-clause-added
returns-clause-added c = lines-all _ c.loop-d.invariant.1 (omega arith)
