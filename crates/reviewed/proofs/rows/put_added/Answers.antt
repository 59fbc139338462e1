-- `rows::put_added` meets its contract. Assumes nothing.
use mathlib.Core.Path.{◌≡◌}
use Rattle.table.specs.Shape.{width}
use Rattle.output.proofs.Writing.{added_then}
use Rattle.reviewed.specs.Texts.{added_text}
use Rattle.sorting.specs.Keys.{row_name}
use Rattle.reviewed.proofs.rows.put_added.Goals as goal

pub returns-clause-added : goal.returns-clause-added
unfolding added_text
returns-clause-added c =
    let a = c.args in
    let name : c.name-source.result.now ≡ row_name a.candidate.file.now a.candidate.imports.cells.now (width 2) 0 1 a.i =
    c.name-source.ensures.0 in
    rw (← name)
    (added_then c.put.ensures.added
    (added_then c.put_domain.ensures.added
    (added_then c.put-2.ensures.added
    (added_then c.put_quoted.ensures.added
    c.put-3.ensures.added))))
