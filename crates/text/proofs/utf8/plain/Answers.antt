-- `plain` meets its contract: bytes that are ASCII together are each a sequence. Assumes nothing.
use native.Mathlib.Omega.{arith}
use Rattle.text.proofs.FastLaws.{ran-next}
use Rattle.text.proofs.utf8.plain.Goals as goal

pub loop-i-preserved : goal.loop-i-preserved
loop-i-preserved c =
    let x = c.args in
    ran-next x.s.now x.at c.loop-i.i c.loop-i.all (omega arith) c.loop-i.invariant
