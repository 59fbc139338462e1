-- `differences::check_tables` meets its contract. Assumes nothing.
use Rattle.std.specs.Prelude.{Err}
use mathlib.Core.Path.{◌≡◌, sym, ◌∙◌, ap}
use borrow.Author.Rules.{rules}
use Rattle.refusal.specs.Said.{said_by}
use Rattle.differences.proofs.Both.{tables-bad, tables-next}
use Rattle.differences.proofs.check_tables.Goals as goal

pub returns-in_err-check_imports : goal.returns-in_err-check_imports
returns-in_err-check_imports c =
    let e : c.from_residual.result ≡ Err c.in_err-check_imports.field-0.0 = search rules in
    rw e (tables-bad _ (sym c.check_imports.ensures ∙ ap said_by c.in_err-check_imports.was))

pub returns : goal.returns
returns c = c.check_exports.ensures ∙ tables-next _ (sym c.check_imports.ensures ∙ ap said_by c.in_ok-check_imports.was)
