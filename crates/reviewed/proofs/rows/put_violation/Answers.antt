-- `rows::put_violation` meets its contract. Assumes nothing.
use Rattle.output.proofs.Writing.{added_then}
use Rattle.reviewed.specs.Texts.{violation_text}
use Rattle.reviewed.proofs.rows.put_violation.Goals as goal

pub returns-clause-added : goal.returns-clause-added
unfolding violation_text
returns-clause-added c =
    added_then c.put.ensures.added
    (added_then c.put_domain.ensures.added
    (added_then c.put-2.ensures.added
    (added_then c.put_quoted.ensures.added
    (added_then c.put-3.ensures.added
    (added_then c.put_quoted-2.ensures.added
    c.put-4.ensures.added)))))
