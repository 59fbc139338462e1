-- `strict::again::mark_export` meets its contract. Assumes nothing.
use Rattle.strict.proofs.Marking.{comes, falls, found}
use Rattle.strict.specs.Again.{export_marks}
use Rattle.strict.proofs.again.mark_export.Goals as goal

pub returns-in_err-k : goal.returns-in_err-k
unfolding export_marks
returns-in_err-k c = falls _ _ _ c.in_err-k.ensures c.from_residual.ensures.1

pub returns-in_err-after_kind : goal.returns-in_err-after_kind
unfolding export_marks
returns-in_err-after_kind c =
    comes _ c.in_ok-k.ensures (falls _ _ _ (found _ c.in_err-after_kind.ensures) c.from_residual-in_err-after_kind.ensures.1)

pub returns : goal.returns
unfolding export_marks
returns c = comes _ c.in_ok-k.ensures (comes _ (found _ c.in_ok-after_kind.ensures) c.mark_number.ensures)
