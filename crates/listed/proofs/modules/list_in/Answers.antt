-- `list_in` meets its contract. Assumes nothing.
use native.Mathlib.Omega.{arith}
use mathlib.Core.Path.{refl, ap, ◌∙◌}
use Rattle.refusal.specs.Said.{refused_by}
use Rattle.conform.proofs.Found.{module-refused, module-found}
use Rattle.listed.proofs.OfModule.{module-counted, still-within, module-settled, refusal-settled, read-in}
use Rattle.listed.proofs.modules.list_in.Goals as goal

pub lay_module-requires : goal.lay_module-requires
lay_module-requires g c =
    module-counted (module-found _ _ c.read_module.ensures.read c.in-Ok.is)
    (still-within c.read_module.ensures.same_tables
    (record { sections-few = omega arith; imports-few = omega arith; exports-few = omega arith; names-few = omega arith }))

pub returns-in-Ok : goal.returns-in-Ok
returns-in-Ok g c = module-settled (module-found _ _ c.read_module.ensures.read c.in-Ok.is) c.lay_module.ensures

pub returns-in-Err-Full : goal.returns-in-Err-Full
returns-in-Err-Full g c =
    let full = module-refused _ _ c.read_module.ensures.read c.in-Err-Full.is ∙ ap refused_by c.in-Err-Full.field-0-is in
    (refl, c.in-Err-Full.field-0-0, read-in _ _ _ _ _ full)

pub returns-in-Err : goal.returns-in-Err
returns-in-Err g c =
    refusal-settled _ _ _ (module-refused _ _ c.read_module.ensures.read c.in-Err.is) c.in-Err.in-Err-own'.refused-1.1 c.no_module.ensures
