-- `differences::check_exports` meets its contract. Assumes nothing.
use Rattle.std.proofs.Common.{rules, tests, ◌≡◌, Err}
use mathlib.Core.Path.{sym, ◌∙◌, ap}
use Rattle.refusal.specs.Said.{said_by}
use Rattle.table.proofs.Testing.{count-refused, rows-searched}
use Rattle.differences.specs.Compared.{exports_tested}
use Rattle.differences.proofs.check_exports.Goals as goal

pub returns-in_err-check_count : goal.returns-in_err-check_count
unfolding exports_tested
returns-in_err-check_count c =
    let e : c.from_residual.result ≡ Err c.in_err-check_count.field-0.0 = search rules in
    rw e (count-refused _ _ _ (sym c.check_count.ensures ∙ ap said_by c.in_err-check_count.was))

pub returns : goal.returns
unfolding exports_tested
returns c =
    c.refuse_row.ensures
    ∙ rows-searched _ _ _ (sym c.check_count.ensures ∙ ap said_by c.in_ok-check_count.was) c.position.ensures.ran
    (λ i b q k. search (rules, tests))
