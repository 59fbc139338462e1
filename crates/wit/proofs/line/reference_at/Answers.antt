-- `reference_at` meets its contract. Assumes nothing.
use mathlib.Core.Path.{sym, ap, ◌∙◌}
use native.Mathlib.Omega.{arith}
use Rattle.text.specs.Piece.{bytes_between}
use Rattle.text.proofs.PieceLaws.{piece-long, trim-to}
use Rattle.wit.specs.Line.{reference_of}
use Rattle.wit.proofs.LineLaws.{boundary-le, bare-is, split-far, split-none}
use Rattle.wit.proofs.line.reference_at.Goals as goal

pub overflow_add-i : goal.overflow_add-i
overflow_add-i c =
    let s = c.args.s.now in
    let b = c.trimmed_at-bare.result.from in
    let e = c.trimmed_at-bare.result.past in
    omega (arith, c.boundary_of.ensures, boundary-le (bytes_between s b e), piece-long s b e (omega arith))

pub returns-then-i-c : goal.returns-then-i-c
returns-then-i-c c =
    let a = c.args in
    let whole = c.trimmed_at-whole in
    let rest = c.trimmed_at-bare in
    let x = trim-to a.s.now a.a a.e (omega arith) (omega arith) whole.ensures.0 in
    let y = trim-to a.s.now whole.result.from c.unbraced_at-g.result (omega arith) (omega arith) rest.ensures.0 in
    let bare = bare-is a.s.now a.a a.e _ _ _ _ _ x c.unbraced_at-g.ensures.2 y in
    split-far a.s.now _ _ _ (omega arith) c.boundary_of.ensures a.export c.if-i-c.true _ _ c.part_at-path.ensures
    c.part_at-signature.ensures ∙ ap (reference_of a.export) (sym bare)

pub returns : goal.returns
returns c =
    let a = c.args in
    let whole = c.trimmed_at-whole in
    let rest = c.trimmed_at-bare in
    let x = trim-to a.s.now a.a a.e (omega arith) (omega arith) whole.ensures.0 in
    let y = trim-to a.s.now whole.result.from c.unbraced_at-g.result (omega arith) (omega arith) rest.ensures.0 in
    let bare = bare-is a.s.now a.a a.e _ _ _ _ _ x c.unbraced_at-g.ensures.2 y in
    split-none a.s.now _ _ _ (omega arith) c.boundary_of.ensures a.export c.if-i-c.false
    ∙ ap (reference_of a.export) (sym bare)
