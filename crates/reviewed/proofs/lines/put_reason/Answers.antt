-- `lines::put_reason` meets its contract. Assumes nothing.
use Rattle.output.proofs.Writing.{added_then}
use Rattle.reviewed.proofs.Telling.{added-same}
use Rattle.reviewed.specs.Texts.{reason_text}
use Rattle.reviewed.proofs.lines.put_reason.Goals as goal

pub returns-clause-added : goal.returns-clause-added
unfolding reason_text
returns-clause-added c =
    added_then c.put.ensures.added
    (added_then (rw c.number.ensures at c.put_number.ensures.added)
    (added_then c.put-2.ensures.added
    (added_then (rw c.place.ensures at c.put_number-2.ensures.added)
    (added_then c.put_beside.ensures.added
    (added_then (added-same c.words_of.ensures c.put-3.ensures.added)
    c.put-4.ensures.added)))))
