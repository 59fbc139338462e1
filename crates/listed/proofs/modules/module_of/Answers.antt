-- `module_of` meets its contract. Assumes nothing.
use Rattle.listed.proofs.modules.module_of.Goals as goal

pub returns-in-Ok : goal.returns-in-Ok
returns-in-Ok c = rw (c.in-Ok.is, c.is_some.ensures, c.unwrap_or-name.ensures)

pub returns-in-Err : goal.returns-in-Err
returns-in-Err c = rw c.in-Err.is c.no_module.ensures
