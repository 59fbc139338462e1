use borrow.Author.Tests.{lt-ltb, le-ltb}
use Rattle.leb.specs.Answers.{answer_from}
use Rattle.leb.specs.Reads.{byte_at}
use Rattle.leb.proofs.Cursor.u8.Goals as goal

pub returns-then-at-s : goal.returns-then-at-s
unfolding answer_from byte_at
returns-then-at-s c = simp (lt-ltb _ _ c.if-at-s.true)

pub returns-else-at-s : goal.returns-else-at-s
unfolding answer_from byte_at
returns-else-at-s c = simp (le-ltb _ _ c.if-at-s.false, c.unread.ensures)
