-- `keyed::quick::pass_blocks` meets its contract: the rows passed have other prints. Assumes nothing.
use Prim.Native.Nat.{◌+◌}
use native.Mathlib.Omega.{arith}
use Rattle.keyed.proofs.Seeking.{unlike-join}
use Rattle.keyed.proofs.quick.pass_blocks.Goals as goal

pub loop-j-preserved : goal.loop-j-preserved
loop-j-preserved c =
    let x = c.args in
    let e = c.none_like.ensures c.if-not-none_like.false in (
      omega arith,
      omega arith,
      unlike-join x.prints.now x.print x.from c.loop-j.j (c.loop-j.j + 16) c.loop-j.invariant.2 e,
    )
