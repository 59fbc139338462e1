-- `reference_rows::check_manifest` meets its contract. Assumes nothing.
use Rattle.std.proofs.Common.{rules, ◌≡◌, Err}
use mathlib.Core.Path.{sym, ◌∙◌, ap}
use Rattle.refusal.specs.Said.{said_by}
use Rattle.refusal.proofs.Following.{follow-stops, follow-goes}
use Rattle.reference_rows.specs.Queries.{manifest_tested}
use Rattle.reference_rows.proofs.check_manifest.Goals as goal

pub returns-in_err-test_text : goal.returns-in_err-test_text
unfolding manifest_tested
returns-in_err-test_text c =
    let e : c.from_residual.result ≡ Err c.in_err-test_text.field-0.0 = search rules in
    rw e (follow-stops _ (sym c.test_text.ensures ∙ ap said_by c.in_err-test_text.was))

pub returns-in_err-check_worlds : goal.returns-in_err-check_worlds
unfolding manifest_tested
returns-in_err-check_worlds c =
    let e : c.from_residual-in_err-check_worlds.result ≡ Err c.in_err-check_worlds.field-0.0 = search rules in
    follow-goes _ (sym c.test_text.ensures ∙ ap said_by c.in_ok-test_text.was)
    (rw e (follow-stops _ (sym c.check_worlds.ensures ∙ ap said_by c.in_err-check_worlds.was)))

pub returns : goal.returns
unfolding manifest_tested
returns c =
    follow-goes _ (sym c.test_text.ensures ∙ ap said_by c.in_ok-test_text.was)
    (follow-goes _ (sym c.check_worlds.ensures ∙ ap said_by c.in_ok-check_worlds.was) c.check_references.ensures)
