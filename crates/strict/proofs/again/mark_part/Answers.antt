-- `strict::again::mark_part` meets its contract. Assumes nothing.
use Rattle.leb.proofs.Bounds.{counted-in}
use Rattle.strict.proofs.Marking.{comes, falls}
use Rattle.strict.specs.Again.{part_marks}
use mathlib.Core.Path.{sym}
use native.Mathlib.Omega.{arith}
use Rattle.strict.proofs.again.mark_part.Goals as goal

pub returns-in_err-p : goal.returns-in_err-p
unfolding part_marks
returns-in_err-p c = falls _ _ _ c.in_err-p.ensures c.from_residual.ensures.1

pub overflow_sub-p : goal.overflow_sub-p
overflow_sub-p c =
    let w = counted-in _ _ _ _ (sym c.in_ok-p.ensures) in
    omega (arith, w.past)

pub returns : goal.returns
unfolding part_marks
returns c = comes _ c.in_ok-p.ensures (simp c.with_number.ensures)
