-- `reasons::put_need` meets its contract. Assumes nothing.
use Rattle.output.proofs.Writing.{added_then}
use Rattle.reasons.proofs.Lines.{need-line}
use Rattle.reasons.proofs.put_need.Goals as goal

pub returns-clause-added : goal.returns-clause-added
returns-clause-added c =
    let a = c.args in
    rw (need-line a.candidate.file.now a.candidate.imports.cells.now a.i a.domain c.name-source.ensures.0)
    (added_then c.put.ensures.added
    (added_then c.put_domain.ensures.added
    (added_then c.put-2.ensures.added
    (added_then c.put-3.ensures.added c.put-4.ensures.added))))
