-- `write_form` meets its contract. Assumes nothing.
use Rattle.std.proofs.Common.{rules}
use Rattle.output.proofs.Writing.{counted_full, counted_done}
use Rattle.policy_text.proofs.WriteLaws.{form-few}
use Rattle.policy_text.proofs.write_form.Goals as goal

pub returns-then-out-needed : goal.returns-then-out-needed
returns-then-out-needed c =
    counted_full _ _ _ c.put_form.ensures.added c.counting-counted.ensures.is (search rules)
    (form-few c.args.s.now c.requires.2 c.args.p) c.if-out-needed.true

pub returns : goal.returns
returns c =
    counted_done _ _ _ c.put_form.ensures.added c.counting-counted.ensures.is (search rules)
    (form-few c.args.s.now c.requires.2 c.args.p) c.if-out-needed.false
    c.put_form-2.ensures.added c.writing-written.ensures.is (search rules)
