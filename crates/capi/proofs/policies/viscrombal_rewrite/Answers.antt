-- `viscrombal_rewrite` meets its contract. Assumes nothing.
use Rattle.capi.proofs.Telling.{write-told}
use Rattle.capi.proofs.policies.viscrombal_rewrite.Goals as goal

pub returns : goal.returns
returns c = write-told c.written_of.ensures c.rewrite.ensures
