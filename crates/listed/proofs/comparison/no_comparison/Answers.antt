-- `no_comparison` meets its contract. Assumes nothing.
use Rattle.listed.proofs.comparison.no_comparison.Goals as goal

pub returns : goal.returns
returns c = rw (c.number.ensures, c.place.ensures, c.beside.ensures)
