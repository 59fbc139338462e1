-- `table::range` meets its contract. Assumes nothing.
use mathlib.Core.Path.{refl, sym}
use Prim.Native.Nat.{◌+◌, ◌≤◌}
use native.Mathlib.Nat.{add-sub_cancel_left}
use native.Mathlib.Omega.{arith}
use lib.ListN.{length}
use Rattle.refusal.proofs.Ranges.{said_in, said-out}
use Rattle.table.proofs.Cells.{range-in, range-out, start-in, start-out}
use Rattle.table.proofs.range.Goals as goal

pub returns-then-not-fits : goal.returns-then-not-fits
returns-then-not-fits c =
    let a = c.args in
    let outside = said-out _ _ _ c.fits.ensures c.if-not-fits.true in
    (sym (range-out _ _ _ outside), refl, omega (arith, start-out a.bytes.now a.from a.len outside))

pub overflow_add-result : goal.overflow_add-result
overflow_add-result c =
    let within : let a = c.args in a.from + a.len ≤ length a.bytes.now = said_in _ _ _ c.fits.ensures c.if-not-fits.false in
    omega (arith, within)

pub slice_bounds-result-end-2 : goal.slice_bounds-result-end-2
slice_bounds-result-end-2 c =
    let within : let a = c.args in a.from + a.len ≤ length a.bytes.now = said_in _ _ _ c.fits.ensures c.if-not-fits.false in
    omega (arith, within)

pub returns : goal.returns
returns c =
    let within : let a = c.args in a.from + a.len ≤ length a.bytes.now = said_in _ _ _ c.fits.ensures c.if-not-fits.false in
    let a = c.args in (
      rw add-sub_cancel_left (sym (range-in a.bytes.now a.from a.len (within))),
      refl,
      omega (arith, start-in a.bytes.now a.from a.len (within)),
    )
