-- `strict::again::mark_global` meets its contract. Assumes nothing.
use Rattle.strict.proofs.Marking.{comes, falls, found}
use Rattle.strict.specs.Again.{global_marks}
use Rattle.strict.proofs.again.mark_global.Goals as goal

pub returns-in_err-after_value : goal.returns-in_err-after_value
unfolding global_marks
returns-in_err-after_value c = falls _ _ _ (found _ c.in_err-after_value.ensures) c.from_residual.ensures.1

pub returns-in_err-mutable : goal.returns-in_err-mutable
unfolding global_marks
returns-in_err-mutable c =
    comes _ (found _ c.in_ok-after_value.ensures)
    (falls _ _ _ (found _ c.in_err-mutable.ensures) c.from_residual-in_err-mutable.ensures.1)

pub returns : goal.returns
unfolding global_marks
returns c =
    comes _ (found _ c.in_ok-after_value.ensures)
    (comes _ (found _ c.in_ok-mutable.ensures) (simp c.with_flag.ensures))
