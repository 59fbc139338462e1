-- `KeyRows::meets` meets its contract. Assumes nothing.
use mathlib.Core.Path.{◌∙◌}
use borrow.Author.Tests.{ne_eqb}
use Rattle.keyed.proofs.Seeking.{not-wanted, key-decides}
use Rattle.keyed.proofs.rows.KeyRows.meets.Goals as goal

pub returns-then-cell-eq1 : goal.returns-then-cell-eq1
returns-then-cell-eq1 c = key-decides _ _ _ _ _ c.cell.ensures c.if-cell-eq1.true c.same_key.ensures

pub returns-else-cell-eq1 : goal.returns-else-cell-eq1
returns-else-cell-eq1 c = ne_eqb _ _ c.if-cell-eq1.false ∙ not-wanted _ _ _ _ _ c.cell.ensures c.if-cell-eq1.false
