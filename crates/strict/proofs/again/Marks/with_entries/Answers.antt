-- `strict::again::Marks::with_entries` meets its contract. Assumes nothing.
use Rattle.strict.specs.Again.{with_entries}
use borrow.Author.Tests.{eq-eqb, ne_eqb}
use Rattle.strict.proofs.again.Marks.with_entries.Goals as goal

pub returns-then-at-size : goal.returns-then-at-size
unfolding with_entries
returns-then-at-size c = simp (eq-eqb c.args.at c.args.size c.if-at-size.true)

pub returns-else-at-size : goal.returns-else-at-size
unfolding with_entries
returns-else-at-size c = simp (ne_eqb c.args.at c.args.size c.if-at-size.false)
