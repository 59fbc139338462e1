-- `compat::keys::key_at` meets its contract. Assumes nothing.
use Rattle.compat.proofs.Making.{key-first, key-second}
use Rattle.compat.proofs.keys.key_at.Goals as goal

pub returns-then-i-first : goal.returns-then-i-first
returns-then-i-first c = key-first _ _ _ _ c.row_count-first.ensures c.if-i-first.true c.row_key.ensures

pub returns : goal.returns
returns c = key-second _ _ _ _ c.row_count-first.ensures c.if-i-first.false c.row_key-2.ensures
