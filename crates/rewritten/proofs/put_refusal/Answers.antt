-- `put_refusal` meets its contract. Assumes nothing.
use native.Mathlib.Omega.{arith}
use Rattle.report.proofs.Printing.{no_room, all-put}
use Rattle.rewritten.proofs.Telling.{line-is, line-short}
use Rattle.rewritten.proofs.put_refusal.Goals as goal

pub returns-then-out-text : goal.returns-then-out-text
returns-then-out-text c =
    let text = c.range-text.ensures.0 in
    no_room _ _ (line-is _ c.number.ensures c.place.ensures (omega arith) (omega arith) text c.refused_line-line.ensures) c.if-out-text.true

pub returns : goal.returns
returns c =
    let text = c.range-text.ensures.0 in
    let short = line-short _ c.number.ensures c.place.ensures (omega arith) (omega arith) in
    all-put _ _ (line-is _ c.number.ensures c.place.ensures (omega arith) (omega arith) text c.refused_line-line.ensures)
    (omega (arith, short)) c.if-out-text.false c.put.ensures
