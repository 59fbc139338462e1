use native.Mathlib.Omega.{arith}
use Rattle.leb.proofs.Answering.{gives, refuses}
use Rattle.leb.proofs.Four.{short, joined}
use Rattle.leb.proofs.Cursor.u32_le.Goals as goal

pub returns-then-remaining-lt4 : goal.returns-then-remaining-lt4
returns-then-remaining-lt4 c =
    let a = c.args in
    let r = c.remaining.ensures in
    refuses c.unread.ensures (short a.s.now a.self.at (omega (arith, r)))

pub returns : goal.returns
returns c =
    let a = c.args in
    let r = c.remaining.ensures in
    gives _
    (joined a.s.now a.self.at (omega (arith, r)) c.wide-b0.ensures c.wide-b1.ensures c.wide-b2.ensures
    c.wide-b3.ensures)
