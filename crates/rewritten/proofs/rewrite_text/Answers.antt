-- `rewrite_text` meets its contract. Assumes nothing.
use Rattle.rewritten.specs.Printed.{printed_in}
use Rattle.rewritten.proofs.Enough.{promised}
use Rattle.rewritten.proofs.Telling.{line-told, bytes-told}
use Rattle.rewritten.proofs.rewrite_text.Goals as goal

pub returns-in-Err : goal.returns-in-Err
unfolding printed_in
returns-in-Err c =
    let a = c.args in
    let all = promised a.text.now a.out.now (line-told c.put_policy.ensures c.in-Err.is c.put_refusal.ensures) in
    record { prints = all.0; prints_2 = all.1.0; upper_bound = all.1.1 }

pub returns-in-Ok : goal.returns-in-Ok
unfolding printed_in
returns-in-Ok c =
    let a = c.args in
    let all = promised a.text.now a.out.now (bytes-told c.put_policy.ensures c.in-Ok.is) in
    record { prints = all.0; prints_2 = all.1.0; upper_bound = all.1.1 }
