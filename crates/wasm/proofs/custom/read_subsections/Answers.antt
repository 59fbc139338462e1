-- `wasm::custom::read_subsections` meets its contract: the invariant is `Going`. Assumes nothing.
use mathlib.Core.Path.{refl}
use native.Mathlib.Omega.{arith}
use borrow.Author.Rules.{rules}
use Rattle.table.proofs.Telling.{passed}
use Rattle.table.proofs.Walking.{going_end, going-off, going_on}
use Rattle.wasm.specs.Custom.{NamesHeld, subsection_at}
use Rattle.wasm.proofs.Reading.{given_back}
use Rattle.wasm.proofs.custom.read_subsections.Goals as goal

pub loop-c-init : goal.loop-c-init
loop-c-init c = (λ t e h. record { state = t; value = e; held = h; goes_on = refl }, refl)

pub returns-in_err-told : goal.returns-in_err-told
returns-in_err-told c t e h =
    rw (given_back _ _ c.from_residual.ensures)
    (going-off (subsection_at _ _) (NamesHeld _) (NamesHeld _) (c.loop-c.invariant.0 t e h) c.loop-c.invariant.1 c.in_err-told.ensures.1
    c.loop-c-test.true refl)

pub loop-c-smaller : goal.loop-c-smaller
loop-c-smaller c = omega (arith, c.loop-c-test.true, passed _ _ c.in_ok-told.ensures.0 refl)

pub loop-c-preserved : goal.loop-c-preserved
loop-c-preserved c =
    let p = passed _ _ c.in_ok-told.ensures.0 refl in (
      λ t e h.
          going_on (subsection_at _ _) (NamesHeld _) (NamesHeld _) (c.loop-c.invariant.0 t e h) c.loop-c.invariant.1
          c.in_ok-told.ensures.1 refl p.0 p.1,
      search rules,
    )

pub returns : goal.returns
returns c t e h = going_end (c.loop-c.invariant.0 t e h) c.loop-c-test.false
