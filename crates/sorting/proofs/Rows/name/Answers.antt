-- `Rows::name` meets its contract. Assumes nothing.
use mathlib.Core.Path.{ap, ◌∙◌}
use Rattle.sorting.proofs.Rowing.{name-first, name-second}
use Rattle.sorting.proofs.Rows.name.Goals as goal
use Rattle.sorting.proofs.Rows.name.Goals.{then-cell-eq0, else-cell-eq0}

pub returns : goal.returns
returns c =
    let r = c.args.self in
    c.range.ensures.0 ∙ elim c.if-cell-eq0.branch [
      | then-cell-eq0 w ↦
          name-first r.first.now r.second.now r.cells.now r.keys c.args.i c.cell-2.ensures c.cell-3.ensures c.cell.ensures
          (ap (λ b. b.now) w.file-is) w.if-cell-eq0.true
      | else-cell-eq0 w ↦
          name-second r.first.now r.second.now r.cells.now r.keys c.args.i c.cell-2.ensures c.cell-3.ensures c.cell.ensures
          (ap (λ b. b.now) w.file-is) w.if-cell-eq0.false
    ]
