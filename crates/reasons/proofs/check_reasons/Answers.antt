-- `reasons::check_reasons` meets its contract. Assumes nothing.
use Rattle.std.specs.Prelude.{Err}
use mathlib.Core.Path.{◌≡◌, sym, ◌∙◌, ap}
use borrow.Author.Rules.{rules}
use Rattle.refusal.specs.Said.{said_by}
use Rattle.refusal.proofs.Following.{follow-stops, follow-goes}
use Rattle.reasons.specs.Reasons.{reasons_tested}
use Rattle.reasons.proofs.check_reasons.Goals as goal

pub returns-in_err-check_both : goal.returns-in_err-check_both
unfolding reasons_tested
returns-in_err-check_both c =
    let e : c.from_residual.result ≡ Err c.in_err-check_both.field-0.0 = search rules in
    rw e (follow-stops _ (sym c.check_both.ensures ∙ ap said_by c.in_err-check_both.was))

pub returns : goal.returns
unfolding reasons_tested
returns c = follow-goes _ (sym c.check_both.ensures ∙ ap said_by c.in_ok-check_both.was) c.check_diffs.ensures
