-- `put_rule` meets its contract. Assumes nothing.
use Rattle.output.proofs.Writing.{added_none}
use Rattle.policy_text.proofs.WriteLaws.{rule-none, text-allow, text-deny}
use Rattle.policy_text.proofs.put_rule.Goals as goal

pub returns-in-None-clause-added : goal.returns-in-None-clause-added
returns-in-None-clause-added c =
    let a = c.args in
    rw (rule-none a.s.now a.x c.in-None.is) (added_none a.out.now)

pub returns-in-Allow-clause-added : goal.returns-in-Allow-clause-added
returns-in-Allow-clause-added c =
    let a = c.args in
    rw (text-allow a.s.now a.x a.d c.in-Allow.is) c.put_line.ensures.added

pub returns-in-Deny-clause-added : goal.returns-in-Deny-clause-added
returns-in-Deny-clause-added c =
    let a = c.args in
    rw (text-deny a.s.now a.x a.d c.in-Deny.is) c.put_line-in-Deny.ensures.added
