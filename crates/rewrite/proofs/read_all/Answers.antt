-- `read_all` meets its contract: what the reader gave stands in the buffer, in its order. Assumes nothing.
use borrow.Author.Rules.{rules}
use Rattle.rewrite.proofs.Filling.{filled}
use Rattle.rewrite.proofs.read_all.Goals as goal

pub loop-n-preserved : goal.loop-n-preserved
loop-n-preserved g c = (
  search rules,
  search rules,
  filled _ _ _ _ _ _ _ _ c.loop-n.invariant.0 c.in_ok-more.ensures.bound.0 c.loop-n.invariant.2 c.in_ok-more.ensures.bytes.0,
)
