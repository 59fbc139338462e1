-- `lines::put_path` meets its contract. Assumes nothing.
use Rattle.output.proofs.Writing.{added_then}
use Rattle.reviewed.specs.Texts.{path_text}
use Rattle.reviewed.proofs.lines.put_path.Goals as goal

pub returns-clause-added : goal.returns-clause-added
unfolding path_text
returns-clause-added c =
    added_then c.put.ensures.added
    (added_then c.put_quoted.ensures.added
    c.put-2.ensures.added)
