-- `wasm::rows::read_rows` meets its contract: the invariant is `Held`, and each way out of the loop is a law of `Reading`. Assumes
-- nothing.
use Prim.Native.Nat.{◌+◌, ◌*◌, ◌≤◌}
use mathlib.Core.Path.{refl, sym}
use borrow.Author.Rules.{rules}
use lib.ListN.{length}
use Rattle.table.specs.Shape.{width, limit}
use Rattle.table.proofs.Cells.{room_row}
use Rattle.table.proofs.Reading.{held-bad, held-full, held_more, held_whole}
use Rattle.table.proofs.Telling.{tell-first, tell-next}
use Rattle.wasm.proofs.Reading.{heard, unheard, given_back, left_all, left_before, left_after, left_none}
use Rattle.wasm.proofs.rows.read_rows.Goals as goal

pub returns-in_err-count : goal.returns-in_err-count
returns-in_err-count g c rows q h =
    rw (given_back _ _ c.from_residual.ensures) (tell-first _ (unheard _ _ _ c.in_err-count.ensures) refl)

pub loop-init : goal.loop-init
loop-init g c = (
  λ rows q h. record { rows = rows; table_is = q; count-is = h; goes_on = rw (c.room-room.ensures, left_all c.in_ok-count.count) },
  refl,
)

pub returns-in_err-row : goal.returns-in_err-row
returns-in_err-row g c rows q h =
    let r = g.R.Row in
    rw (given_back _ _ c.from_residual-in_err-row.ensures)
    (tell-next _ (heard _ _ c.in_ok-count.ensures)
    (held-bad r.row_cells (width r.TABLE) g.met.R.Row.wide _ _ _ (c.loop.invariant.0 rows q h) (left_before c.loop-test.true)
    (sym c.in_err-row.ensures)))

pub returns-then-k-room : goal.returns-then-k-room
returns-then-k-room g c rows q h =
    let r = g.R.Row in
    rw c.TABLE.ensures
    (tell-next _ (heard _ _ c.in_ok-count.ensures)
    (held-full r.row_cells (width r.TABLE) g.met.R.Row.wide _ _ _ (c.loop.invariant.0 rows q h) (left_before c.loop-test.true)
    (sym c.in_ok-row.ensures) c.if-k-room.true))

pub loop-preserved : goal.loop-preserved
loop-preserved g c =
    let r = g.R.Row in
    let fits : c.loop.k * width r.TABLE + width r.TABLE ≤ length c.args.table.now =
    room_row _ (width r.TABLE) (limit r.TABLE) c.loop.k (rw (sym c.room-room.ensures) c.if-k-room.false) in (
      λ rows q h.
          rw (left_after c.in_ok-count.count c.loop.counter)
          (held_more r.row_cells (width r.TABLE) g.met.R.Row.wide _ _ _ (c.loop.invariant.0 rows q h) (left_before c.loop-test.true)
          (sym c.in_ok-row.ensures) c.if-k-room.false fits c.put.ensures),
      search rules,
    )

pub returns : goal.returns
returns g c rows q h =
    let r = g.R.Row in
    tell-next _ (heard _ _ c.in_ok-count.ensures)
    (held_whole r.row_cells (width r.TABLE) g.met.R.Row.wide _ _ _ (c.loop.invariant.0 rows q h) (left_none c.loop-test.false))
