-- `wasm::custom::read_subsection` meets its contract. Assumes nothing.
use mathlib.Core.Path.{refl}
use native.Mathlib.Omega.{arith}
use Rattle.table.specs.Told.{Passed}
use Rattle.table.proofs.Telling.{tell-first, tell-next}
use Rattle.leb.proofs.Bounds.{byte-in, counted-in}
use Rattle.wasm.specs.Custom.{subsection_at}
use Rattle.wasm.proofs.Customs.{cut, subsection-stop, subsection-got}
use Rattle.wasm.proofs.Reading.{heard, unheard, given_back}
use Rattle.wasm.proofs.custom.read_subsection.Goals as goal

pub returns-in_err-id : goal.returns-in_err-id
unfolding subsection_at Passed
returns-in_err-id c =
    rw (given_back _ _ c.from_residual.ensures) (tt, λ t n h. tell-first _ (unheard _ _ _ c.in_err-id.ensures) refl)

pub returns-in_err-p : goal.returns-in_err-p
unfolding subsection_at Passed
returns-in_err-p c =
    rw (given_back _ _ c.from_residual-in_err-p.ensures)
    (tt, λ t n h. tell-next _ (heard _ _ c.in_ok-id.ensures) (tell-first _ (unheard _ _ _ c.in_err-p.ensures) refl))

pub returns-in-Err : goal.returns-in-Err
unfolding Passed
returns-in-Err c =
    let p = c.in_ok-p.p in (
      tt,
      λ t n h.
          subsection-stop _ _ _ _ t _ _ _ _ (heard _ _ c.in_ok-id.ensures) (heard _ _ c.in_ok-p.ensures) _
          (cut p.from p.len c.args.s.now) _ (c.in-Err.ensures t n h) c.in-Err.why refl c.moved.ensures,
    )

pub returns-in-Ok : goal.returns-in-Ok
unfolding Passed
returns-in-Ok c =
    let p = c.in_ok-p.p in
    let first = byte-in _ _ _ _ (heard _ _ c.in_ok-id.ensures) in
    let second = counted-in _ _ _ _ (heard _ _ c.in_ok-p.ensures) in (
      (omega (arith, first.past, second.past, second.end), second.in-s),
      λ t n h.
          subsection-got _ _ _ _ t _ _ _ _ (heard _ _ c.in_ok-id.ensures) (heard _ _ c.in_ok-p.ensures) _
          (cut p.from p.len c.args.s.now) _ (c.in-Ok.ensures t n h) refl,
    )
