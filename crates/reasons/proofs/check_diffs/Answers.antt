-- `reasons::check_diffs` meets its contract. Assumes nothing.
use Rattle.std.specs.Prelude.{Err}
use mathlib.Core.Path.{◌≡◌, sym, ◌∙◌, ap}
use borrow.Author.Rules.{rules}
use Rattle.refusal.specs.Said.{said_by}
use Rattle.refusal.proofs.Following.{follow-stops, follow-goes}
use Rattle.reasons.specs.Reasons.{diffs_tested}
use Rattle.reasons.proofs.check_diffs.Goals as goal

pub returns-in_err-check_export_diffs : goal.returns-in_err-check_export_diffs
unfolding diffs_tested
returns-in_err-check_export_diffs c =
    let e : c.from_residual.result ≡ Err c.in_err-check_export_diffs.field-0.0 = search rules in
    rw e (follow-stops _ (sym c.check_export_diffs.ensures ∙ ap said_by c.in_err-check_export_diffs.was))

pub returns : goal.returns
unfolding diffs_tested
returns c = follow-goes _ (sym c.check_export_diffs.ensures ∙ ap said_by c.in_ok-check_export_diffs.was) c.check_need_diffs.ensures
