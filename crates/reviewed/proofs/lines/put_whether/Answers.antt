-- `lines::put_whether` meets its contract. Assumes nothing.
use Rattle.output.proofs.Writing.{added_then}
use Rattle.reviewed.specs.Texts.{whether}
use Rattle.reviewed.proofs.lines.put_whether.Goals.{then-not-yes, else-not-yes}
use Rattle.reviewed.proofs.lines.put_whether.Goals as goal

pub returns-clause-added : goal.returns-clause-added
unfolding whether
returns-clause-added c =
    elim c.if-not-yes.branch [
      | then-not-yes w ↦ rw w.if-not-yes.true (added_then w.put.ensures.added (rw w.out-is at c.put-2.ensures.added))
      | else-not-yes w ↦ rw w.if-not-yes.false (rw w.out-is at c.put-2.ensures.added)
    ]
