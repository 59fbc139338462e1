use Rattle.std.proofs.Common.{rules, ◌≡◌, Err, ◌+◌, ◌≤◌, length, arith}
use Rattle.refusal.specs.Said.{accepted, got}
use Rattle.leb.specs.Reads.{counted_at, name_at}
use Rattle.leb.proofs.Answering.{hands_on, goes_on, gives, refuses, hear}
use Rattle.leb.proofs.Bounds.{counted-in, name-good, name-bad}
use Rattle.leb.specs.Answers.{said_read}
use Rattle.leb.proofs.Cursor.name.Goals as goal

pub returns-in_err-bytes : goal.returns-in_err-bytes
unfolding name_at
returns-in_err-bytes c =
    let e : c.from_residual.result ≡ Err c.in_err-bytes.field-0.0 = search rules in
    rw e (hands_on _ _ _ _ c.in_err-bytes.ensures)

pub overflow_add-end : goal.overflow_add-end
overflow_add-end c =
    let w = counted-in _ _ _ _ (hear said_read _ _ c.counted.ensures c.in_ok-bytes.was) in
    omega (arith, w.end, w.in-s)

pub slice_bounds-valid_up_to-end : goal.slice_bounds-valid_up_to-end
slice_bounds-valid_up_to-end c =
    let w = counted-in _ _ _ _ (hear said_read _ _ c.counted.ensures c.in_ok-bytes.was) in
    omega (arith, w.end, w.in-s)

pub returns-then-valid_up_to-bytes : goal.returns-then-valid_up_to-bytes
unfolding name_at
returns-then-valid_up_to-bytes c =
    goes_on _ _ _ c.in_ok-bytes.ensures (gives _ (name-good _ _ _ c.valid_up_to.ensures c.if-valid_up_to-bytes.true))

pub returns-else-valid_up_to-bytes : goal.returns-else-valid_up_to-bytes
unfolding name_at
returns-else-valid_up_to-bytes c =
    goes_on _ _ _ c.in_ok-bytes.ensures (refuses c.unread.ensures (name-bad _ _ _ c.valid_up_to.ensures c.if-valid_up_to-bytes.false))
