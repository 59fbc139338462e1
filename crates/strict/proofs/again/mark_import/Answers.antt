-- `strict::again::mark_import` meets its contract. Assumes nothing.
use Rattle.strict.proofs.Marking.{comes, falls, found}
use Rattle.strict.specs.Again.{import_marks}
use Rattle.strict.proofs.again.mark_import.Goals as goal

pub returns-in_err-k : goal.returns-in_err-k
unfolding import_marks
returns-in_err-k c = falls _ _ _ c.in_err-k.ensures c.from_residual.ensures.1

pub returns-in_err-l : goal.returns-in_err-l
unfolding import_marks
returns-in_err-l c = comes _ c.in_ok-k.ensures (falls _ _ _ c.in_err-l.ensures c.from_residual-in_err-l.ensures.1)

pub returns-in_err-kind : goal.returns-in_err-kind
unfolding import_marks
returns-in_err-kind c =
    comes _ c.in_ok-k.ensures
    (comes _ c.in_ok-l.ensures (falls _ _ _ (found _ c.in_err-kind.ensures) c.from_residual-in_err-kind.ensures.1))

pub returns : goal.returns
unfolding import_marks
returns c =
    comes _ c.in_ok-k.ensures
    (comes _ c.in_ok-l.ensures (comes _ (found _ c.in_ok-kind.ensures) c.mark_desc.ensures))
