-- `no_tokens` meets its contract. Assumes nothing.
use Rattle.listed.proofs.tokens.no_tokens.Goals as goal

pub returns : goal.returns
returns c = rw (c.number.ensures, c.place.ensures)
