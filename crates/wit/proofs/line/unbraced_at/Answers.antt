-- `unbraced_at` meets its contract. Assumes nothing.
use native.Mathlib.Omega.{arith}
use Rattle.wit.proofs.LineLaws.{unbraced-is}
use Rattle.wit.proofs.line.unbraced_at.Goals as goal

pub overflow_add-result : goal.overflow_add-result
overflow_add-result c =
    let a = c.args in
    omega (arith, (unbraced-is a.s.now a.a a.e c.shorn_of.result (omega arith) c.shorn_of.ensures).0)

pub returns : goal.returns
returns c =
    let a = c.args in
    let u = unbraced-is a.s.now a.a a.e c.shorn_of.result (omega arith) c.shorn_of.ensures in
    (omega arith, omega (arith, u.0), u.1)
