-- `table::put_row` meets its contract. Assumes nothing.
use mathlib.Core.Path.{sym, ◌∙◌}
use Prim.Native.Nat.{◌*◌}
use native.Mathlib.Omega.{arith}
use lib.ListN.{length}
use Rattle.table.proofs.Laws.{put-row-room, put-row-none, put-nothing}
use Rattle.table.proofs.Cells.{row_fits, row-leaves, row-copied}
use Rattle.table.proofs.put_row.Goals as goal

pub returns-then-width-eq0 : goal.returns-then-width-eq0
returns-then-width-eq0 c = sym (put-nothing _ _ _ c.if-width-eq0.true)

pub overflow_mul-at : goal.overflow_mul-at
overflow_mul-at c = let a = c.args in omega (arith, row_fits (length a.table.now) (length a.row.now) a.count c.if-count-table.true)

pub returns-then-count-table : goal.returns-then-count-table
returns-then-count-table c =
    let a = c.args in
    row-copied a.table.now a.row.now (a.count * length a.row.now) c.copy_from_slice.ensures.after
    ∙ sym (put-row-room _ _ _ (row_fits (length a.table.now) (length a.row.now) a.count c.if-count-table.true))

pub returns-else-count-table : goal.returns-else-count-table
returns-else-count-table c = sym (put-row-none _ _ _ (row-leaves _ _ _ (omega arith) c.if-count-table.false))
