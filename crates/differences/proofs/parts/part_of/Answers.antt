-- `parts::part_of` meets its contract: a row that is not there gives the empty part at the baseline's start. Assumes nothing.
use mathlib.Core.Path.{◌≡◌}
use mathlib.Core.Bool.{false}
use Prim.Native.Nat.{◌+◌, ◌≤◌}
use native.Mathlib.Omega.{arith}
use lib.ListN.{length}
use Rattle.refusal.proofs.Ranges.{said_in, said-out}
use Rattle.differences.specs.Part.{there}
use Rattle.differences.proofs.Places.{past-count, past_room, outside, part_bytes, part-block, part-offset}
use Rattle.differences.proofs.Places.{gone-bytes, gone-block, gone-offset}
use Rattle.differences.proofs.parts.part_of.Goals.{then-rows-row-via-then-rows-row, then-rows-row-via-else-rows-row+then-capacity-row}
use Rattle.differences.proofs.parts.part_of.Goals as goal

pub returns-then-rows-row : goal.returns-then-rows-row
returns-then-rows-row g c =
    let a = c.args in
    let e : there a.file.now g.row.WIDTH g.row.MOST a.rows.cells.now a.rows.count a.row ≡ false =
    elim c.then-rows-row.branch [
      | then-rows-row-via-then-rows-row w ↦ past-count _ _ _ _ _ _ w.if-rows-row.true
      | then-rows-row-via-else-rows-row+then-capacity-row w ↦ past_room _ _ _ _ _ _ w.if-rows-row.false w.capacity.ensures w.if-capacity-row.true
    ] in (
      gone-bytes _ _ _ _ _ _ e,
      gone-block _ _ _ _ _ _ e _ _,
      omega (arith, gone-offset _ _ _ _ _ _ e a.file.ref_ptr.1 a.baseline.ref_ptr.1),
    )

pub returns-then-not-fits : goal.returns-then-not-fits
returns-then-not-fits g c =
    let a = c.args in
    let e : there a.file.now g.row.WIDTH g.row.MOST a.rows.cells.now a.rows.count a.row ≡ false =
    outside _ _ _ _ _ _ c.if-rows-row.false c.capacity.ensures c.if-capacity-row.false c.cell-from.ensures c.cell-len.ensures
    (said-out _ _ _ c.fits.ensures c.if-not-fits.true) in (
      gone-bytes _ _ _ _ _ _ e,
      gone-block _ _ _ _ _ _ e _ _,
      omega (arith, gone-offset _ _ _ _ _ _ e a.file.ref_ptr.1 a.baseline.ref_ptr.1),
    )

pub overflow_add-result : goal.overflow_add-result
overflow_add-result g c =
    let within : c.cell-from.result + c.cell-len.result ≤ length c.args.file.now = said_in _ _ _ c.fits.ensures c.if-not-fits.false in
    omega (arith, within)

pub slice_bounds-result-end-2 : goal.slice_bounds-result-end-2
slice_bounds-result-end-2 g c =
    let within : c.cell-from.result + c.cell-len.result ≤ length c.args.file.now = said_in _ _ _ c.fits.ensures c.if-not-fits.false in
    omega (arith, within)

pub returns : goal.returns
returns g c =
    let within : c.cell-from.result + c.cell-len.result ≤ length c.args.file.now = said_in _ _ _ c.fits.ensures c.if-not-fits.false in
    let a = c.args in (
      part_bytes _ _ _ _ _ _ c.if-rows-row.false c.capacity.ensures c.if-capacity-row.false c.cell-from.ensures c.cell-len.ensures (within),
      part-block _ _ _ _ _ _ c.if-rows-row.false c.capacity.ensures c.if-capacity-row.false c.cell-from.ensures c.cell-len.ensures (within)
          _ _,
      omega (
        arith,
        part-offset a.file.now g.row.WIDTH g.row.MOST a.rows.cells.now a.rows.count a.row c.if-rows-row.false c.capacity.ensures
            c.if-capacity-row.false c.cell-from.ensures c.cell-len.ensures (within) a.file.ref_ptr.1 a.baseline.ref_ptr.1,
      ),
    )
