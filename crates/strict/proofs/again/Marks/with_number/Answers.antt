-- `strict::again::Marks::with_number` meets its contract. Assumes nothing.
use Rattle.strict.specs.Again.{with_number}
use borrow.Author.Tests.{le-leb, lt-leb}
use Rattle.strict.proofs.again.Marks.with_number.Goals as goal

pub returns-then-taken-le-MOST_BYTES : goal.returns-then-taken-le-MOST_BYTES
unfolding with_number
returns-then-taken-le-MOST_BYTES c = simp (le-leb c.args.taken 5 c.if-taken-le-MOST_BYTES.true)

pub returns-else-taken-le-MOST_BYTES : goal.returns-else-taken-le-MOST_BYTES
unfolding with_number
returns-else-taken-le-MOST_BYTES c = simp (lt-leb c.args.taken 5 c.if-taken-le-MOST_BYTES.false)
