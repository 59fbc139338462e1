-- `three` meets its contract: the second byte's range is that of the table's row. Assumes nothing.
use mathlib.Core.Path.{◌≡◌}
use native.Mathlib.Omega.{arith}
use lib.Dec.{eqb}
use Rattle.refusal.specs.Pick.{pick}
use Rattle.text.proofs.Utf8Laws.{three-is, at-byte, at-others}
use Rattle.text.proofs.utf8.three.Goals as goal
use Rattle.text.proofs.utf8.three.Goals.{then-a-eq224, else-a-eq224, then-a-eq237, else-a-eq237}

pub returns : goal.returns
returns c s =
    let x = c.args in
    let lo : c.if-a-eq224.lo ≡ pick (eqb x.a 0xE0) 0xA0 0x80 =
    elim c.if-a-eq224.branch [
      | then-a-eq224 w ↦ at-byte _ w.lo-is w.if-a-eq224.true
      | else-a-eq224 w ↦ at-others _ w.lo-is w.if-a-eq224.false
    ] in
    let hi : c.if-a-eq237.hi ≡ pick (eqb x.a 0xED) 0x9F 0xBF =
    elim c.if-a-eq237.branch [
      | then-a-eq237 w ↦ at-byte _ w.hi-is w.if-a-eq237.true
      | else-a-eq237 w ↦ at-others _ w.hi-is w.if-a-eq237.false
    ] in
    rw c.follows.ensures (three-is x.a x.b x.c c.if-a-eq224.lo c.if-a-eq237.hi s (omega arith) (omega arith) lo hi)
