-- `KeyRows::next_rank` meets its contract. Assumes nothing.
use Rattle.keyed.proofs.Sameness.{rank-kept, rank-next}
use Rattle.keyed.proofs.rows.KeyRows.next_rank.Goals as goal

pub returns-then-same_key : goal.returns-then-same_key
returns-then-same_key c = rank-kept _ c.same_key.ensures c.if-same_key.true

pub returns : goal.returns
returns c = rank-next _ c.same_key.ensures c.if-same_key.false
