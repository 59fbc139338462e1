-- `ruled_at` meets its contract. Assumes nothing.
use Rattle.std.proofs.Common.{rules, ◌≡◌, Err, sym, ap, ◌+◌, arith}
use Rattle.text.specs.Piece.{bytes_between}
use Rattle.text.proofs.FindLaws.{index-le}
use Rattle.text.proofs.PieceLaws.{piece-long}
use Rattle.policy.proofs.HeardLaws.{ruled-wrong, ruled-listed, ruled-plain}
use Rattle.policy.proofs.reader.ruled_at.Goals as goal

pub overflow_add-colon : goal.overflow_add-colon
overflow_add-colon c =
    let a = c.args in
    let s = a.s.now in
    omega (arith, c.find.ensures, index-le 58 (bytes_between s a.a a.e), piece-long s a.a a.e (omega arith))

pub domain_at-requires : goal.domain_at-requires
domain_at-requires c =
    let a = c.args in
    let s = a.s.now in
    let at = index-le 58 (bytes_between s a.a a.e) in
    let long = piece-long s a.a a.e (omega arith) in
    (omega arith, omega (arith, c.find.ensures, at, long))

pub returns-in_err-d : goal.returns-in_err-d
returns-in_err-d c =
    let a = c.args in
    let e : c.from_residual.result ≡ Err c.in_err-d.field-0.0 = search rules in
    let q = ap (λ i. a.a + i) c.find.ensures in
    rw e (ruled-wrong a.s.now a.a a.e (a.a + c.find.result) (omega arith) (omega arith) q a.line a.allow (sym c.in_err-d.ensures))

pub returns-then-colon-e : goal.returns-then-colon-e
returns-then-colon-e c =
    let a = c.args in
    let q = ap (λ i. a.a + i) c.find.ensures in
    ruled-listed a.s.now a.a a.e (a.a + c.find.result) (omega arith) (omega arith) q a.line a.allow
    (omega arith) c.stance_of-stance.ensures (sym c.in_ok-d.ensures)

pub returns : goal.returns
returns c =
    let a = c.args in
    let q = ap (λ i. a.a + i) c.find.ensures in
    ruled-plain a.s.now a.a a.e (a.a + c.find.result) (omega arith) (omega arith) q a.line a.allow
    (omega arith) c.stance_of-stance.ensures (sym c.in_ok-d.ensures)
