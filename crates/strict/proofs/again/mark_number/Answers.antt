-- `strict::again::mark_number` meets its contract. Assumes nothing.
use native.Mathlib.Omega.{arith}
use mathlib.Core.Path.{sym}
use Rattle.leb.proofs.Bounds.{u32-in}
use Rattle.strict.proofs.Marking.{comes, falls}
use Rattle.strict.specs.Again.{number_marks}
use Rattle.strict.proofs.again.mark_number.Goals as goal

pub returns-in_err-next : goal.returns-in_err-next
unfolding number_marks
returns-in_err-next c = falls _ _ _ c.in_err-next.ensures c.from_residual.ensures.1

pub overflow_sub-next : goal.overflow_sub-next
overflow_sub-next c =
    let w = u32-in _ _ _ _ (sym c.in_ok-next.ensures) in
    omega (arith, w.0.past)

pub returns : goal.returns
unfolding number_marks
returns c = comes _ c.in_ok-next.ensures (simp c.with_number.ensures)
