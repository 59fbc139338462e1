-- `wasm::section::read_section` meets its contract. Assumes nothing.
use mathlib.Core.Path.{refl}
use native.Mathlib.Omega.{arith}
use Rattle.table.specs.Told.{Passed}
use Rattle.table.proofs.Telling.{tell-first, tell-next}
use Rattle.leb.proofs.Bounds.{byte-in, counted-in}
use Rattle.wasm.specs.Module.{section_at}
use Rattle.wasm.proofs.Customs.{cut}
use Rattle.wasm.proofs.Framing.{section-stop, section-got, ends-passed}
use Rattle.wasm.proofs.Reading.{heard, unheard, given_back}
use Rattle.wasm.proofs.section.read_section.Goals as goal

pub returns-in_err-id-clause-passed : goal.returns-in_err-id-clause-passed
unfolding Passed
returns-in_err-id-clause-passed c = rw (given_back _ _ c.from_residual.ensures) tt

pub returns-in_err-id-clause-read : goal.returns-in_err-id-clause-read
unfolding section_at
returns-in_err-id-clause-read c t n h =
    rw (given_back _ _ c.from_residual.ensures) (tell-first _ (unheard _ _ _ c.in_err-id.ensures) refl)

pub returns-in_err-p-clause-passed : goal.returns-in_err-p-clause-passed
unfolding Passed
returns-in_err-p-clause-passed c = rw (given_back _ _ c.from_residual-in_err-p.ensures) tt

pub returns-in_err-p-clause-read : goal.returns-in_err-p-clause-read
unfolding section_at
returns-in_err-p-clause-read c t n h =
    rw (given_back _ _ c.from_residual-in_err-p.ensures)
    (tell-next _ (heard _ _ c.in_ok-id.ensures) (tell-first _ (unheard _ _ _ c.in_err-p.ensures) refl))

pub returns-in-Err-clause-passed : goal.returns-in-Err-clause-passed
unfolding Passed
returns-in-Err-clause-passed c = tt

pub returns-in-Err-clause-read : goal.returns-in-Err-clause-read
returns-in-Err-clause-read c t n h =
    let p = c.in_ok-p.p in
    section-stop _ _ t _ _ _ _ _ (heard _ _ c.in_ok-id.ensures) (heard _ _ c.in_ok-p.ensures) _
    (cut p.from p.len c.args.file.now) _ (c.in-Err.ensures.read t n h) c.in-Err.why refl c.moved.ensures

pub returns-in-Ok-clause-passed : goal.returns-in-Ok-clause-passed
returns-in-Ok-clause-passed c =
    let first = byte-in _ _ _ _ (heard _ _ c.in_ok-id.ensures) in
    let second = counted-in _ _ _ _ (heard _ _ c.in_ok-p.ensures) in
    ends-passed _ _ _ _ (omega (arith, first.past, second.past, second.end)) second.in-s c.take_section.ensures.ends

pub returns-in-Ok-clause-read : goal.returns-in-Ok-clause-read
returns-in-Ok-clause-read c t n h =
    let p = c.in_ok-p.p in
    section-got _ _ t _ _ _ _ _ (heard _ _ c.in_ok-id.ensures) (heard _ _ c.in_ok-p.ensures) _
    (cut p.from p.len c.args.file.now) _ (c.in-Ok.ensures.read t n h) _ _ c.in-Ok.ensures.same_tables.sizes-same refl
    c.take_section.ensures.taken
