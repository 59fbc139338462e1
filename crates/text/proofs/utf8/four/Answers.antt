-- `four` meets its contract: the second byte's range is that of the table's row. Assumes nothing.
use mathlib.Core.Path.{◌≡◌}
use native.Mathlib.Omega.{arith}
use lib.Dec.{eqb}
use Rattle.refusal.specs.Pick.{pick}
use Rattle.text.proofs.Utf8Laws.{four_is, at-byte, at-others}
use Rattle.text.proofs.utf8.four.Goals as goal
use Rattle.text.proofs.utf8.four.Goals.{then-a-eq240, else-a-eq240, then-a-eq244, else-a-eq244}

pub returns : goal.returns
returns c s =
    let x = c.args in
    let lo : c.if-a-eq240.lo ≡ pick (eqb x.a 0xF0) 0x90 0x80 =
    elim c.if-a-eq240.branch [
      | then-a-eq240 w ↦ at-byte _ w.lo-is w.if-a-eq240.true
      | else-a-eq240 w ↦ at-others _ w.lo-is w.if-a-eq240.false
    ] in
    let hi : c.if-a-eq244.hi ≡ pick (eqb x.a 0xF4) 0x8F 0xBF =
    elim c.if-a-eq244.branch [
      | then-a-eq244 w ↦ at-byte _ w.hi-is w.if-a-eq244.true
      | else-a-eq244 w ↦ at-others _ w.hi-is w.if-a-eq244.false
    ] in
    rw (c.follows.ensures, c.follows-2.ensures)
    (four_is x.a x.b x.c x.d c.if-a-eq240.lo c.if-a-eq244.hi s (omega arith) (omega arith) lo hi)
