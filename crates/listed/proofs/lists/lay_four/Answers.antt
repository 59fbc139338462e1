-- `lay_four` meets its contract. Assumes nothing.
use mathlib.Core.Path.{refl}
use Rattle.listed.proofs.Laying.{four-full, four}
use Rattle.listed.proofs.lists.lay_four.Goals as goal

pub returns-then-out-needed : goal.returns-then-out-needed
returns-then-out-needed c =
    let g = c.args in
    four-full g.out.now g.a.now g.b.now g.c.now g.d.now refl c.if-out-needed.true

pub returns : goal.returns
returns c =
    let g = c.args in
    four g.out.now g.a.now g.b.now g.c.now g.d.now c.if-out-needed.false
    c.put_cells-first.ensures c.put_cells-second.ensures c.put_cells-third.ensures c.put_cells.ensures
