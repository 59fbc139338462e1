-- `wasm::custom::read_custom` meets its contract. Assumes nothing.
use mathlib.Core.Path.{refl, sym, ◌∙◌}
use Rattle.table.proofs.Telling.{tell-first}
use Rattle.wasm.specs.Custom.{custom_at, name_word}
use Rattle.wasm.proofs.Customs.{cut, custom-plain, custom-stop, custom-names}
use Rattle.wasm.proofs.Reading.{heard, unheard, given_back}
use Rattle.wasm.proofs.custom.read_custom.Goals as goal

pub returns-in_err-p : goal.returns-in_err-p
unfolding custom_at
returns-in_err-p c t n h =
    rw (given_back _ _ c.from_residual.ensures) (tell-first _ (unheard _ _ _ c.in_err-p.ensures) refl)

pub returns-then-not-equal : goal.returns-then-not-equal
unfolding name_word
returns-then-not-equal c t n h =
    let p = c.in_ok-p.p in
    custom-plain _ _ _ t _ _ (heard _ _ c.in_ok-p.ensures) _ (cut p.from p.len c.args.s.now) _ c.shift-name.ensures
    (sym c.equal.ensures ∙ c.if-not-equal.true) _ _ n h

pub returns-in_err-inner : goal.returns-in_err-inner
unfolding name_word
returns-in_err-inner c t n h =
    let p = c.in_ok-p.p in
    rw (given_back _ _ c.from_residual-in_err-inner.ensures)
    (custom-stop _ _ _ t _ _ (heard _ _ c.in_ok-p.ensures) _ (cut p.from p.len c.args.s.now) _ c.shift-name.ensures
    (sym c.equal.ensures ∙ c.if-not-equal.false) _ (c.in_err-inner.ensures t n h) refl)

pub returns : goal.returns
unfolding name_word
returns c t n h =
    let p = c.in_ok-p.p in
    custom-names _ _ _ t _ _ (heard _ _ c.in_ok-p.ensures) _ (cut p.from p.len c.args.s.now) _ c.shift-name.ensures
    (sym c.equal.ensures ∙ c.if-not-equal.false) _ (c.in_ok-inner.ensures t n h) refl
