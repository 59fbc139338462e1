-- `table::name` meets its contract. Assumes nothing.
use mathlib.Core.Path.{refl, sym}
use native.Mathlib.Omega.{arith}
use Rattle.table.proofs.Cells.{name-beside, name_start-beside}
use Rattle.table.proofs.name.Goals as goal

pub returns-then-width-column : goal.returns-then-width-column
returns-then-width-column c =
    let a = c.args in
    let h = c.if-width-column.true in (
      sym (name-beside a.file.now a.rows.now a.width a.i a.column h),
      refl,
      omega (arith, name_start-beside a.file.now a.rows.now a.width a.i a.column h),
    )
