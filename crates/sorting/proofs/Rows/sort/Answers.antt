-- `Rows::sort` meets its contract. Assumes nothing.
use Rattle.std.proofs.Common.{rules}
use Rattle.sorting.specs.Keys.{row_marked, sorted_rows}
use Rattle.sorting.proofs.Rows.sort.Goals as goal

pub returns : goal.returns
unfolding sorted_rows
returns c = c.sort_wanted.ensures (row_marked _ _ _ _) (λ i r h p. search rules)
