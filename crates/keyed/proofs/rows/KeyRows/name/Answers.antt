-- `KeyRows::name` meets its contract. Assumes nothing.
use mathlib.Core.Path.{ap, ◌∙◌}
use Rattle.keyed.proofs.Sameness.{name-first, name-second}
use Rattle.keyed.proofs.rows.KeyRows.name.Goals as goal
use Rattle.keyed.proofs.rows.KeyRows.name.Goals.{then-cell-eq0, else-cell-eq0}

pub returns : goal.returns
returns c =
    let r = c.args.self in
    c.range.ensures.0 ∙ elim c.if-cell-eq0.branch [
      | then-cell-eq0 w ↦
          rw (ap (λ b. b.now) w.list-is)
          (name-first r.first.now r.second.now r.keys.now c.args.i c.cell-2.ensures c.cell-3.ensures c.cell.ensures w.if-cell-eq0.true)
      | else-cell-eq0 w ↦
          rw (ap (λ b. b.now) w.list-is)
          (name-second r.first.now r.second.now r.keys.now c.args.i c.cell-2.ensures c.cell-3.ensures c.cell.ensures w.if-cell-eq0.false)
    ]
