-- `review_text` meets its contract. Assumes nothing.
use Prim.Native.Nat.{◌≤◌}
use native.Mathlib.Omega.{arith}
use lib.ListN.{length}
use Rattle.std.proofs.Common.{rules}
use Rattle.output.specs.Bytes.{most}
use Rattle.reviewed.proofs.Rooms.{no-room-for, room_for}
use Rattle.reviewed.proofs.review_text.Goals as goal

pub returns-then-out-n : goal.returns-then-out-n
returns-then-out-n c =
    let few : length c.args.out.now ≤ most = omega arith in
    no-room-for _ _ c.put_report.ensures.added c.counting-counted.ensures.is (search rules) few c.if-out-n.true
    c.put_no_room.ensures

pub returns : goal.returns
returns c =
    let few : length c.args.out.now ≤ most = omega arith in
    room_for _ _ c.put_report.ensures.added c.counting-counted.ensures.is (search rules) few c.if-out-n.false
    c.put_report-2.ensures.added c.writing-written.ensures.is (search rules)
