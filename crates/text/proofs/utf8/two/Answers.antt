-- `two` meets its contract. Assumes nothing.
use native.Mathlib.Omega.{arith}
use Rattle.text.proofs.Utf8Laws.{two_is}
use Rattle.text.proofs.utf8.two.Goals as goal

pub returns : goal.returns
returns c s =
    let x = c.args in
    rw c.follows.ensures (two_is x.a x.b s (omega arith) (omega arith))
