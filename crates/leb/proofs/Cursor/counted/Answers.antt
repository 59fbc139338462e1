use Rattle.std.proofs.Common.{rules, ◌≡◌, Err, sym}
use Rattle.leb.specs.Answers.{said_read}
use Rattle.leb.specs.Reads.{counted_at}
use Rattle.leb.proofs.Answering.{hands_on, goes_on, gives, refuses, hear}
use Rattle.leb.proofs.Cursor.counted.Goals as goal

pub returns-in_err-len : goal.returns-in_err-len
unfolding counted_at
returns-in_err-len c =
    let e : c.from_residual.result ≡ Err c.in_err-len.field-0.0 = search rules in
    rw e (hands_on _ _ _ _ c.in_err-len.ensures)

pub returns-in-Ok : goal.returns-in-Ok
unfolding counted_at
returns-in-Ok c = goes_on _ _ _ c.in_ok-len.ensures (gives _ (sym (hear said_read _ _ c.take.ensures c.in-Ok.is)))

pub returns-in-Err : goal.returns-in-Err
unfolding counted_at
returns-in-Err c =
    goes_on _ _ _ c.in_ok-len.ensures (refuses c.unread.ensures (sym (hear said_read _ _ c.take.ensures c.in-Err.is)))
