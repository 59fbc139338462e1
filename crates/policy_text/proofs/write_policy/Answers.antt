-- `write_policy` meets its contract. Assumes nothing.
use Rattle.std.proofs.Common.{rules, ◌≡◌, Err, sym}
use Rattle.policy.proofs.EightLaws.{tested}
use Rattle.output.proofs.ByteLaws.{formed-long}
use Rattle.policy_text.proofs.WriteLaws.{write-refused, write-formed}
use Rattle.policy_text.proofs.write_policy.Goals as goal

pub returns-in_err-test_policy : goal.returns-in_err-test_policy
returns-in_err-test_policy c =
    let a = c.args in
    let e : c.from_residual.result ≡ Err c.in_err-test_policy.field-0.0 = search rules in
    rw e (write-refused a.s.now a.p a.out.now c.in_err-test_policy.ensures)

pub write_form-requires : goal.write_form-requires
write_form-requires c =
    let z = tested c.args.s.now c.args.p (sym c.in_ok-test_policy.ensures) in
    (z.rules, z.name, z.short)

pub shape_of-out : goal.shape_of-out
shape_of-out c = formed-long _ _ 0 c.write_form.ensures

pub returns : goal.returns
returns c =
    let a = c.args in
    write-formed a.s.now a.p a.out.now c.in_ok-test_policy.ensures c.write_form.ensures
