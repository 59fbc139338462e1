-- `strict::quick::word` meets its contract. Assumes nothing.
use Rattle.strict.proofs.Newness.{word-is}
use Rattle.strict.proofs.quick.word.Goals as goal

pub returns : goal.returns
returns c = word-is _ _ c.half.ensures c.half-2.ensures c.stir.ensures
