-- `strict::again::Marks::with_flag` meets its contract. Assumes nothing.
use Rattle.strict.specs.Again.{with_flag}
use borrow.Author.Tests.{le-leb, lt-leb}
use Rattle.strict.proofs.again.Marks.with_flag.Goals as goal

pub returns-then-byte-le-LAST_FLAG : goal.returns-then-byte-le-LAST_FLAG
unfolding with_flag
returns-then-byte-le-LAST_FLAG c = simp (le-leb c.args.byte 1 c.if-byte-le-LAST_FLAG.true)

pub returns-else-byte-le-LAST_FLAG : goal.returns-else-byte-le-LAST_FLAG
unfolding with_flag
returns-else-byte-le-LAST_FLAG c = simp (lt-leb c.args.byte 1 c.if-byte-le-LAST_FLAG.false)
