use borrow.Author.Tests.{lt-ltb, le-ltb, le-leb, lt-leb}
use Rattle.leb.specs.Answers.{answer_from}
use Rattle.leb.specs.Reads.{taken_at}
use Rattle.leb.proofs.Cursor.take.Goals as goal

pub returns-then-s-at : goal.returns-then-s-at
unfolding answer_from taken_at
returns-then-s-at c = simp (lt-ltb _ _ c.if-s-at.true, c.unread.ensures)

pub returns-then-at-n : goal.returns-then-at-n
unfolding answer_from taken_at
returns-then-at-n c = simp (le-ltb _ _ c.if-s-at.false, lt-ltb _ _ c.if-at-n.true, c.unread-then-at-n.ensures)

pub returns-then-at-n-2 : goal.returns-then-at-n-2
unfolding answer_from taken_at
returns-then-at-n-2 c = simp (le-ltb _ _ c.if-s-at.false, le-ltb _ _ c.if-at-n.false, le-leb _ _ c.if-at-n-2.true)

pub returns-else-at-n-2 : goal.returns-else-at-n-2
unfolding answer_from taken_at
returns-else-at-n-2 c = simp (le-ltb _ _ c.if-s-at.false, le-ltb _ _ c.if-at-n.false, lt-leb _ _ c.if-at-n-2.false, c.unread-else-at-n-2.ensures)
