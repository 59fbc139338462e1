-- `evaluate_rows` meets its contract. Assumes nothing.
use Rattle.std.proofs.Common.{rules, ◌≡◌, Err, sym, arith}
use lib.Seq.{length-take-le}
use Rattle.verdicts.proofs.EvalLaws.{room-short, room_fits, rows-bad, rows-good}
use Rattle.verdicts.proofs.evaluate_rows.Goals as goal

pub returns-then-room-n : goal.returns-then-room-n
returns-then-room-n g c =
    room-short g.R.Asking.number c.args.rows.now c.args.n c.capacity-room.result c.args.p c.capacity-room.ensures (omega arith)

pub slice_bounds-tally-end : goal.slice_bounds-tally-end
slice_bounds-tally-end g c =
    let fits = room_fits g.R.Asking.number c.args.rows.now c.args.n c.capacity-room.result c.args.p c.capacity-room.ensures (omega arith) in
    sym (length-take-le c.args.n c.args.rows.now fits)

pub returns-in_err-many : goal.returns-in_err-many
returns-in_err-many g c =
    let e : c.from_residual.result ≡ Err c.in_err-many.field-0.0 = search rules in
    rw e (rows-bad g.R.Asking.number c.args.rows.now c.args.n c.capacity-room.result c.args.p c.capacity-room.ensures
    (omega arith) (sym c.in_err-many.ensures))

pub returns : goal.returns
returns g c =
    rows-good g.R.Asking.number c.args.rows.now c.args.n c.capacity-room.result c.args.p c.capacity-room.ensures
    (omega arith) (sym c.in_ok-many.ensures) c.judge.ensures
