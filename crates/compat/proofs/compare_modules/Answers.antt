-- `compat::compare_modules` meets its contract. Assumes nothing.
use Rattle.std.specs.Prelude.{Err}
use mathlib.Core.Path.{◌≡◌, sym, ◌∙◌, ap}
use borrow.Author.Rules.{rules}
use Rattle.refusal.specs.Said.{said_by}
use Rattle.differences.proofs.Both.{both-good}
use Rattle.compat.proofs.Answering.{compared-bad, compares-whole, compares-stop, cleared, cleared-length}
use Rattle.compat.proofs.compare_modules.Goals as goal

pub compare_tables-requires : goal.compare_tables-requires
compare_tables-requires c = record {
  good = both-good _ _ (sym c.check_both.ensures ∙ ap said_by c.in_ok-check_both.was);
  xd_value = (cleared _ c.clear.ensures, cleared _ c.clear-2.ensures);
}

pub returns-in_err-check_both : goal.returns-in_err-check_both
returns-in_err-check_both c =
    let e : c.from_residual.result ≡ Err c.in_err-check_both.field-0.0 = search rules in
    rw e
    (compares-stop (compared-bad _ _ _ _ (sym c.check_both.ensures ∙ ap said_by c.in_err-check_both.was))
    c.clear.ensures c.clear-2.ensures)

pub returns : goal.returns
returns c =
    compares-whole _ _ (sym c.check_both.ensures ∙ ap said_by c.in_ok-check_both.was) _ _
    (cleared-length c.clear.ensures) (cleared-length c.clear-2.ensures) c.compare_tables.ensures
