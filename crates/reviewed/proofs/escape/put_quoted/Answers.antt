-- `escape::put_quoted` meets its contract. Assumes nothing.
use Rattle.output.proofs.Writing.{added_then}
use Rattle.reviewed.specs.Escape.{quoted}
use Rattle.reviewed.proofs.escape.put_quoted.Goals as goal

pub returns-clause-added : goal.returns-clause-added
unfolding quoted
returns-clause-added c = added_then c.put.ensures.added (added_then c.put_name.ensures.added c.put-2.ensures.added)
