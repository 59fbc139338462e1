-- `put_unread` meets its contract. Assumes nothing.
use Rattle.output.proofs.Writing.{added_then}
use Rattle.reviewed.specs.Review.{unread_of}
use Rattle.reviewed.proofs.put_unread.Goals as goal

pub returns-clause-added : goal.returns-clause-added
unfolding unread_of
returns-clause-added c =
    added_then c.put_path.ensures.added
    (added_then c.put.ensures.added
    (added_then c.put-2.ensures.added
    c.put-3.ensures.added))
