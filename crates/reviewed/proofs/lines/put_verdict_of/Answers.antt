-- `lines::put_verdict_of` meets its contract. Assumes nothing.
use Rattle.output.proofs.Writing.{added_then}
use Rattle.reviewed.specs.Texts.{domain_text}
use Rattle.reviewed.proofs.lines.put_verdict_of.Goals as goal

pub returns-clause-added : goal.returns-clause-added
unfolding domain_text
returns-clause-added c =
    added_then c.put.ensures.added
    (added_then c.put_domain.ensures.added
    (added_then c.put-2.ensures.added
    (added_then c.put_whether.ensures.added
    (added_then c.put-3.ensures.added
    (added_then c.put_number.ensures.added
    (added_then c.put-4.ensures.added
    (added_then c.put_whether-2.ensures.added
    (added_then c.put_mark.ensures.added
    c.put-5.ensures.added))))))))
