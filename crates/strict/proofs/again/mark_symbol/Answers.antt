-- `strict::again::mark_symbol` meets its contract. Assumes nothing.
use Rattle.strict.proofs.Marking.{comes, falls}
use Rattle.strict.specs.Again.{symbol_marks}
use Rattle.strict.proofs.again.mark_symbol.Goals as goal

pub returns-in_err-k : goal.returns-in_err-k
unfolding symbol_marks
returns-in_err-k c = falls _ _ _ c.in_err-k.ensures c.from_residual.ensures.1

pub returns : goal.returns
unfolding symbol_marks
returns c = comes _ c.in_ok-k.ensures c.mark_part.ensures
