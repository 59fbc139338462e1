-- `strict::read_strict` meets its contract. Assumes nothing.
use mathlib.Core.Path.{sym, ◌∙◌, ap, subst}
use Rattle.strict.proofs.Judging.{strict-stops, strict-good, strict-bad, few-counted, rule-some}
use Rattle.strict.specs.Rules.{rule_told}
use Rattle.wasm.specs.Lending.{lent}
use Rattle.wasm.specs.Module.{no_tables, Sizes, Holds}
use Rattle.strict.proofs.read_strict.Goals as goal

pub returns-in_err-module-clause-read : goal.returns-in_err-module-clause-read
returns-in_err-module-clause-read c = strict-stops _ _ _ _ _ c.in_err-module.ensures.read c.from_residual.ensures.1

pub judge-requires : goal.judge-requires
judge-requires c = few-counted _ _ _ _ c.in_ok-module.ensures.read

pub returns-in_default-clause-read : goal.returns-in_default-clause-read
returns-in_default-clause-read c =
    strict-good _ _ _ _ c.in_ok-module.ensures.read _ c.judge.ensures (ap rule_told c.in_default.is)

pub returns-clause-read : goal.returns-clause-read
returns-clause-read c =
    strict-bad _ _ _ _ c.in_ok-module.ensures.read _ c.judge.ensures _ _ (c.number.ensures ∙ sym (ap rule_told c.in-Some.is))
    (λ e. rule-some _ (sym (ap rule_told c.in-Some.is) ∙ e))
    (subst (λ (z : Sizes). Holds (lent c.clear.new.self) z no_tables)
    c.in_ok-module.ensures.same_tables.sizes-same c.clear.ensures.cleared)
