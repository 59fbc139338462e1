-- `put_report` meets its contract. Assumes nothing.
use Rattle.output.proofs.Writing.{added_then}
use Rattle.reviewed.specs.Review.{review_of}
use Rattle.reviewed.proofs.put_report.Goals as goal

pub returns-clause-added : goal.returns-clause-added
unfolding review_of
returns-clause-added c =
    added_then c.put_path.ensures.added
    (added_then c.put_policy.ensures.added
    (added_then c.put_path-2.ensures.added
    (added_then c.put_build.ensures.added
    (added_then c.put_path-3.ensures.added
    (added_then c.put_build-2.ensures.added
    c.put_verdicts.ensures.added)))))
