-- `table::cell` meets its contract. Assumes nothing.
use mathlib.Core.Path.{refl, sym}
use native.Mathlib.Omega.{arith}
use lib.ListN.{length}
use Rattle.table.proofs.Cells.{row-past, cell-beside, cell-past, cell-got, cell-none}
use Rattle.table.proofs.cell.Goals as goal

pub returns-then-width-column : goal.returns-then-width-column
returns-then-width-column c = let a = c.args in sym (cell-beside a.table.now a.width a.row a.column c.if-width-column.true)

pub returns-then-table-width : goal.returns-then-table-width
returns-then-table-width c =
    let a = c.args in
    let past = row-past (length a.table.now) a.width a.row (omega arith) c.if-table-width.true in
    sym (cell-past a.table.now a.width a.row a.column (omega arith))

pub returns-in-Some : goal.returns-in-Some
returns-in-Some c =
    let a = c.args in
    cell-got a.table.now a.width a.row a.column c.if-width-column.false refl refl (c.in-Some.ensures.lookup.3.1 0)

pub returns-in-None : goal.returns-in-None
returns-in-None c = let a = c.args in cell-none a.table.now a.width a.row a.column refl refl c.in-None.ensures.lookup.3
