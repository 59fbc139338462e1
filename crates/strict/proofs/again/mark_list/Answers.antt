-- `strict::again::mark_list` meets its contract. Assumes nothing.
use Rattle.strict.proofs.Marking.{comes, falls}
use Rattle.strict.specs.Again.{list_marks}
use Rattle.strict.proofs.again.mark_list.Goals as goal

pub returns-in_err-k : goal.returns-in_err-k
unfolding list_marks
returns-in_err-k c = falls _ _ _ c.in_err-k.ensures c.from_residual.ensures.1

pub returns : goal.returns
unfolding list_marks
returns c = comes _ c.in_ok-k.ensures (simp c.with_entries.ensures)
