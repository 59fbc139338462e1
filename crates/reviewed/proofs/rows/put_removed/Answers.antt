-- `rows::put_removed` meets its contract. Assumes nothing.
use mathlib.Core.Path.{◌≡◌}
use Rattle.table.specs.Shape.{width}
use Rattle.output.proofs.Writing.{added_then}
use Rattle.reviewed.specs.Texts.{removed_text}
use Rattle.differences.specs.View.{export_key_at}
use Rattle.sorting.specs.Keys.{row_name}
use Rattle.reviewed.proofs.rows.put_removed.Goals as goal

pub returns-clause-added : goal.returns-clause-added
unfolding removed_text export_key_at
returns-clause-added c =
    let a = c.args in
    let name : c.name-name.result.now ≡ row_name a.baseline.file.now a.baseline.exports.cells.now (width 3) 0 1 a.i =
    c.name-name.ensures.0 in
    rw (← name, ← c.cell-kind.ensures)
    (added_then c.put.ensures.added
    (added_then c.put_quoted.ensures.added
    (added_then c.put-2.ensures.added
    (added_then c.put_kind.ensures.added
    c.put-3.ensures.added))))
