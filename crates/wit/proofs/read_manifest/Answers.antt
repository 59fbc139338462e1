-- `read_manifest` meets its contract: after a refusal both tables are zero again. Assumes nothing.
use Rattle.std.proofs.Common.{rules, Err}
use mathlib.Core.Path.{◌≡◌, sym, ◌∙◌, ap, subst}
use Rattle.wit.specs.Manifest.{ManifestSizes, lend_manifest, ManifestHolds, start, said_known}
use Rattle.wit.proofs.Answer.{sizes-same, manifest-bad, manifest-good, manifest-stop}
use Rattle.wit.proofs.read_manifest.Goals as goal

pub read_lines-requires : goal.read_lines-requires
read_lines-requires c =
    let new = c.clear_both.new in
    subst (λ (z : ManifestSizes). ManifestHolds (lend_manifest new.worlds new.references) z start)
    (sym (sizes-same c.clear_both.auto.worlds c.clear_both.auto.references)) c.clear_both.ensures

pub returns-in_err-test_text : goal.returns-in_err-test_text
returns-in_err-test_text c =
    let is : c.from_residual.result ≡ Err c.in_err-test_text.field-0.0 = search rules in
    rw is (manifest-bad _ _ c.test_text.ensures _ c.in_err-test_text.was c.clear_both.ensures)

pub returns-in-Ok : goal.returns-in-Ok
returns-in-Ok c =
    let kept = sizes-same c.clear_both.auto.worlds c.clear_both.auto.references in
    manifest-good _ _ c.test_text.ensures c.in_ok-test_text.was _ kept _
    c.read_lines.ensures _ _ _ (ap said_known c.in-Ok.is) c.manifest_of.ensures

pub returns-in-Err : goal.returns-in-Err
returns-in-Err c =
    let kept = sizes-same c.clear_both.auto.worlds c.clear_both.auto.references in
    let last = c.clear_both-in-Err in
    manifest-stop _ _ c.test_text.ensures c.in_ok-test_text.was _ kept _
    c.read_lines.ensures _ _ _ (ap said_known c.in-Err.is)
    (subst (λ (z : ManifestSizes). ManifestHolds (lend_manifest last.new.worlds last.new.references) z start)
    (sizes-same c.read_lines.auto.worlds c.read_lines.auto.references ∙ kept) last.ensures)
