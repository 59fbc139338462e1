-- `list_all` meets its contract. Assumes nothing.
use native.Mathlib.Omega.{arith}
use Rattle.conform.proofs.Found.{module-refused, module-found}
use Rattle.listed.specs.Modules.{module_bytes, module_told}
use Rattle.listed.proofs.Laying.{delivers-none}
use Rattle.listed.proofs.OfModule.{module-counted, still-within, module-settled}
use Rattle.listed.proofs.modules.list_all.Goals as goal

pub lay_module-requires : goal.lay_module-requires
lay_module-requires c =
    module-counted (module-found _ _ c.read_module.ensures.read c.in-Ok.is)
    (still-within c.read_module.ensures.same_tables
    (record { sections-few = omega arith; imports-few = omega arith; exports-few = omega arith; names-few = omega arith }))

pub returns-in-Ok : goal.returns-in-Ok
returns-in-Ok c = module-settled (module-found _ _ c.read_module.ensures.read c.in-Ok.is) c.lay_module.ensures

pub returns-in-Err : goal.returns-in-Err
returns-in-Err c = delivers-none module_bytes (module_told _) (module-refused _ _ c.read_module.ensures.read c.in-Err.is) c.no_module.ensures
