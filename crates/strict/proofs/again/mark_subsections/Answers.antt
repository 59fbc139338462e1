-- `strict::again::mark_subsections` meets its contract: what is left answers as the whole does. Assumes nothing.
use mathlib.Core.Path.{refl, sym, ◌∙◌}
use Rattle.strict.proofs.Marking.{walk-err}
use Rattle.strict.specs.Again.{subsection_marks}
use Rattle.table.proofs.Telling.{passed}
use Rattle.table.proofs.Walking.{from_end, from-go}
use native.Mathlib.Omega.{arith}
use Rattle.strict.proofs.again.mark_subsections.Goals as goal

pub loop-c-init : goal.loop-c-init
loop-c-init c = refl

pub returns-in_err-m : goal.returns-in_err-m
returns-in_err-m c =
    walk-err (subsection_marks _) _ _ _ _ _ c.loop-c-test.true c.in_err-m.ensures.1 c.from_residual.ensures.1 ∙ c.loop-c.invariant

pub loop-c-smaller : goal.loop-c-smaller
loop-c-smaller c = omega (arith, c.loop-c-test.true, passed _ _ c.in_ok-m.ensures.0 refl)

pub loop-c-preserved : goal.loop-c-preserved
loop-c-preserved c =
    let p = passed _ _ c.in_ok-m.ensures.0 refl in
    sym (from-go (subsection_marks _) _ _ _ _ _ (sym c.in_ok-m.ensures.1) p.0 p.1) ∙ c.loop-c.invariant

pub returns : goal.returns
returns c = sym (from_end (subsection_marks _) _ _ _ c.loop-c-test.false) ∙ c.loop-c.invariant
