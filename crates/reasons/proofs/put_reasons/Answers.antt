-- `reasons::put_reasons` meets its contract. Assumes nothing.
use Rattle.output.proofs.Writing.{added_then}
use Rattle.reasons.specs.Reasons.{reasons_of}
use Rattle.reasons.proofs.put_reasons.Goals as goal

pub returns-clause-added : goal.returns-clause-added
unfolding reasons_of
returns-clause-added c = added_then c.put_exports.ensures.added c.put_needs.ensures.added
