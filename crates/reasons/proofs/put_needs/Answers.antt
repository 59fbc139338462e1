-- `reasons::put_needs` meets its contract. Assumes nothing.
use mathlib.Core.Path.{refl, ◌∙◌}
use native.Mathlib.Omega.{arith}
use Rattle.reasons.proofs.Lines.{lines-first, lines_next, lines-all}
use Rattle.reasons.proofs.put_needs.Goals as goal

pub loop-i-init : goal.loop-i-init
loop-i-init c = (omega arith, refl, lines-first _ _)

pub loop-i-preserved : goal.loop-i-preserved
loop-i-preserved c =
    let put = c.put_need_row.ensures in
    (omega arith, put.same_reference ∙ c.loop-i.invariant.1, lines_next _ _ c.loop-i.invariant.2 put.added)

pub returns-clause-added : goal.returns-clause-added
returns-clause-added c = lines-all _ c.loop-i.invariant.2 (omega arith)
