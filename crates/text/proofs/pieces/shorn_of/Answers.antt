-- `shorn_of` meets its contract. Assumes nothing.
use mathlib.Core.Path.{◌≡◌, sym, ◌∙◌}
use native.Mathlib.Omega.{arith}
use Rattle.text.specs.Piece.{shorn}
use Rattle.text.proofs.PieceLaws.{shorn-same, shorn-other}
use Rattle.text.proofs.pieces.shorn_of.Goals as goal

pub returns-then-s-i : goal.returns-then-s-i
returns-then-s-i c =
    let a = c.args in
    omega (arith, shorn-other a.b a.s.now c.loop-i.i (omega arith) (omega arith) c.if-s-i.true)

pub loop-i-preserved : goal.loop-i-preserved
loop-i-preserved c =
    let a = c.args in
    c.loop-i.invariant ∙ shorn-same a.b a.s.now c.loop-i.i (omega arith) (omega arith) c.if-s-i.false

pub returns : goal.returns
unfolding shorn
returns c =
    let z : c.loop-i.i ≡ 0 = omega arith in
    sym (rw z at c.loop-i.invariant)
