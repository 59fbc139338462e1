-- `lines::put_counts` meets its contract. Assumes nothing.
use Rattle.output.proofs.Writing.{added_then}
use Rattle.reviewed.specs.Texts.{counts_text}
use Rattle.reviewed.proofs.lines.put_counts.Goals as goal

pub returns-clause-added : goal.returns-clause-added
unfolding counts_text
returns-clause-added c =
    added_then c.put.ensures.added
    (added_then c.put_number.ensures.added
    (added_then c.put-2.ensures.added
    (added_then c.put_number-2.ensures.added
    (added_then c.put-3.ensures.added
    (added_then c.put_number-3.ensures.added
    (added_then c.put-4.ensures.added
    (added_then c.put_number-4.ensures.added
    c.put-5.ensures.added)))))))
