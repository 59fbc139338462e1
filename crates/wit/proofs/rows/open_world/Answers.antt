-- `open_world` meets its contract. Assumes nothing.
use Rattle.std.proofs.Common.{rules, ◌≡◌, Err}
use mathlib.Core.Path.{ap, ◌∙◌}
use Rattle.table.specs.Told.{Ends}
use Rattle.table.proofs.Telling.{ended}
use Rattle.wit.specs.Manifest.{Numbered, said_known}
use Rattle.wit.specs.declared.rows.Known.{Known}
use Rattle.wit.proofs.Stepping.{open-stop, open-nameless, open-named, numbered}
use Rattle.wit.proofs.rows.open_world.Goals as goal

pub returns-in_err-n : goal.returns-in_err-n
unfolding Ends Numbered
returns-in_err-n c =
    let is : c.from_residual.result ≡ Err c.in_err-n.field-0.0 = search rules in
    let q = ap said_known c.in_err-n.was in
    rw is (tt, tt, λ l n t e h. open-stop _ t _ (c.close_world.ensures.2 l n t e h) _ q)

pub returns-then-name-eq0 : goal.returns-then-name-eq0
unfolding Ends Numbered
returns-then-name-eq0 c =
    let q = ap said_known c.in_ok-n.was in
    (tt, tt, λ l n t e h. open-nameless _ t _ (c.close_world.ensures.2 l n t e h) _ q c.if-name-eq0.true)

pub returns : goal.returns
unfolding Ends Numbered
returns c =
    let q = ap said_known c.in_ok-n.was in (
      ended _ c.close_world.ensures.0 q,
      ap (λ (x : Known). x.line) c.with_world.ensures ∙ numbered c.close_world.ensures.1 q,
      λ l n t e h. open-named _ t _ (c.close_world.ensures.2 l n t e h) _ q _ c.if-name-eq0.false c.with_world.ensures,
    )
