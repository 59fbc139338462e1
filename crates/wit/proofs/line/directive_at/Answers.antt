-- `directive_at` meets its contract. Assumes nothing.
use mathlib.Core.Path.{◌∙◌}
use Prim.Native.Nat.{◌+◌}
use native.Mathlib.Omega.{arith}
use Rattle.text.specs.Piece.{bytes_between}
use Rattle.text.proofs.PieceLaws.{piece-long, trim-to}
use Rattle.wit.proofs.LineLaws.{pair-le, directive-some, directive-none}
use Rattle.wit.proofs.line.directive_at.Goals as goal

pub overflow_add-h : goal.overflow_add-h
overflow_add-h c =
    let a = c.args in
    let s = a.s.now in
    omega (arith, c.find_pair.ensures, pair-le 47 47 (bytes_between s a.a a.e), piece-long s a.a a.e (omega arith))

pub returns-then-f-g : goal.returns-then-f-g
returns-then-f-g c =
    let a = c.args in
    let s = a.s.now in
    let p = pair-le 47 47 (bytes_between s a.a a.e) in
    let l = piece-long s a.a a.e (omega arith) in
    let t = trim-to s a.a (a.a + c.find_pair.result) (omega arith) (omega (arith, c.find_pair.ensures, p, l)) c.trimmed_at-t.ensures.0 in
    c.worded_at.ensures
    ∙ directive-some s a.a a.e _ _ _ (omega arith) c.find_pair.ensures t (omega arith) c.if-f-g.true

pub returns : goal.returns
returns c =
    let a = c.args in
    let s = a.s.now in
    let p = pair-le 47 47 (bytes_between s a.a a.e) in
    let l = piece-long s a.a a.e (omega arith) in
    let t = trim-to s a.a (a.a + c.find_pair.result) (omega arith) (omega (arith, c.find_pair.ensures, p, l)) c.trimmed_at-t.ensures.0 in
    directive-none s a.a a.e _ _ _ (omega arith) c.find_pair.ensures t (omega arith) c.if-f-g.false
