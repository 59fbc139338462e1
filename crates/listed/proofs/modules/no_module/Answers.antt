-- `no_module` meets its contract. Assumes nothing.
use Rattle.listed.proofs.modules.no_module.Goals as goal

pub returns : goal.returns
returns c = rw (c.number.ensures, c.place.ensures, c.beside.ensures)
