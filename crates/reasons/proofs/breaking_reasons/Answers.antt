-- `reasons::breaking_reasons` meets its contract. Assumes nothing.
use Rattle.reasons.proofs.Fine.{reasons-first}
use Rattle.reasons.proofs.breaking_reasons.Goals as goal

pub returns : goal.returns
returns c = reasons-first _ _ _ _ c.reasons_from.ensures
