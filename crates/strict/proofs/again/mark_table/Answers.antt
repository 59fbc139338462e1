-- `strict::again::mark_table` meets its contract. Assumes nothing.
use Rattle.strict.proofs.Marking.{comes, falls, found}
use Rattle.strict.specs.Again.{table_marks}
use Rattle.strict.proofs.again.mark_table.Goals as goal

pub returns-in_err-after_element : goal.returns-in_err-after_element
unfolding table_marks
returns-in_err-after_element c = falls _ _ _ (found _ c.in_err-after_element.ensures) c.from_residual.ensures.1

pub returns : goal.returns
unfolding table_marks
returns c = comes _ (found _ c.in_ok-after_element.ensures) c.mark_limits.ensures
