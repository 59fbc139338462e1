-- `boundary_of` meets its contract. Assumes nothing.
use mathlib.Core.Path.{sym, ◌∙◌}
use native.Mathlib.Omega.{arith}
use Rattle.text.proofs.FindLaws.{seek_hit, seek-miss, seek-end}
use Rattle.wit.specs.Line.{splits, boundary}
use Rattle.wit.proofs.line.boundary_of.Goals as goal

pub loop-i-init : goal.loop-i-init
unfolding boundary
loop-i-init c = omega arith

pub returns-then-splits_at : goal.returns-then-splits_at
returns-then-splits_at c =
    let yes = sym c.splits_at.ensures ∙ c.if-splits_at.true in
    omega (arith, seek_hit splits c.args.s.now c.loop-i.i (omega arith) yes)

pub loop-i-preserved : goal.loop-i-preserved
loop-i-preserved c =
    let no = sym c.splits_at.ensures ∙ c.if-splits_at.false in
    omega (arith, seek-miss splits c.args.s.now c.loop-i.i (omega arith) no)

pub returns : goal.returns
returns c = omega (arith, seek-end splits c.args.s.now c.loop-i.i (omega arith))
