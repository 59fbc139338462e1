-- `wasm::read_module` meets its contract: after a refusal every table is zero again. Assumes nothing.
use mathlib.Core.Path.{refl, sym, ◌∙◌, subst}
use native.Mathlib.Omega.{arith}
use Rattle.wasm.specs.Lending.{lent}
use Rattle.wasm.specs.Module.{Sizes, Holds, no_tables}
use Rattle.wasm.proofs.Answer.{module-long, module-head, module-good, module-stop}
use Rattle.wasm.proofs.Reading.{answered}
use Rattle.wasm.proofs.read_module.Goals as goal

pub returns-then-length-gt-MAX_FILE-clause-read : goal.returns-then-length-gt-MAX_FILE-clause-read
returns-then-length-gt-MAX_FILE-clause-read c = module-long _ _ _ c.if-length-gt-MAX_FILE.true c.clear.ensures.cleared

pub returns-in_err-version-clause-read : goal.returns-in_err-version-clause-read
returns-in_err-version-clause-read c =
    rw (answered _ _ c.from_residual.ensures)
    (module-head _ _ c.if-length-gt-MAX_FILE.false _ _ _ (sym c.in_err-version.ensures) refl c.clear.ensures.cleared)

pub read_sections-requires-clause-holds : goal.read_sections-requires-clause-holds
read_sections-requires-clause-holds c =
    subst (λ (z : Sizes). Holds (lent c.clear.new.self) z no_tables) (sym c.clear.ensures.same_tables.sizes-same) c.clear.ensures.cleared

pub returns-in-Ok-clause-read : goal.returns-in-Ok-clause-read
returns-in-Ok-clause-read c =
    module-good _ _ c.if-length-gt-MAX_FILE.false _ _ (sym c.in_ok-version.ensures) _ c.clear.ensures.same_tables.sizes-same
    _ c.in-Ok.ensures.read _ _ _ refl c.module_of.ensures

pub returns-in-Err-clause-read : goal.returns-in-Err-clause-read
returns-in-Err-clause-read c =
    let same = c.clear.ensures.same_tables.sizes-same in
    module-stop _ _ c.if-length-gt-MAX_FILE.false _ _ (sym c.in_ok-version.ensures) _ same _ c.in-Err.ensures.read _ _ _ refl
    (subst (λ (z : Sizes). Holds (lent c.clear-in-Err.new.self) z no_tables)
    (c.in-Err.ensures.same_tables.sizes-same ∙ same) c.clear-in-Err.ensures.cleared)
