-- `lines::put_beside` meets its contract. Assumes nothing.
use Rattle.output.proofs.Writing.{added_none, added_then}
use Rattle.reviewed.proofs.Telling.{added-same, beside-some, beside-none}
use Rattle.reviewed.proofs.lines.put_beside.Goals as goal

pub returns-in-MalformedSection-clause-added : goal.returns-in-MalformedSection-clause-added
returns-in-MalformedSection-clause-added c =
    let told = added_then c.put.ensures.added c.put_number.ensures.added in
    added-same (beside-some c.in-MalformedSection.is) told

pub returns-in_default-clause-added : goal.returns-in_default-clause-added
returns-in_default-clause-added c =
    let a = c.args in
    added-same (beside-none a.why c.in_default.not-MalformedSection) (added_none a.out.now)
