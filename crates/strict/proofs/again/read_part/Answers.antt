-- `strict::again::read_part` meets its contract. Assumes nothing.
use Rattle.leb.specs.Reads.{counted_at}
use Rattle.strict.proofs.Marking.{comes, falls, found, same-err}
use Rattle.strict.proofs.again.read_part.Goals as goal

pub returns-in_err-len : goal.returns-in_err-len
unfolding counted_at
returns-in_err-len c = falls _ _ _ c.in_err-len.ensures c.from_residual.ensures.1

pub returns-in_err-take : goal.returns-in_err-take
unfolding counted_at
returns-in_err-take c = comes _ c.in_ok-len.ensures (same-err _ _ (found _ c.in_err-take.ensures) c.from_residual-in_err-take.ensures.1)

pub returns : goal.returns
unfolding counted_at
returns c = comes _ c.in_ok-len.ensures (found _ c.in_ok-take.ensures)
