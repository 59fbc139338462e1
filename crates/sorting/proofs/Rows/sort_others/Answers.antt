-- `Rows::sort_others` meets its contract. Assumes nothing.
use Rattle.std.proofs.Common.{rules}
use Rattle.sorting.specs.Keys.{unmarked, other_rows}
use Rattle.sorting.proofs.Rowing.{unmarked-is}
use Rattle.sorting.proofs.Rows.sort_others.Goals as goal

pub returns : goal.returns
unfolding other_rows
returns c =
    let r = c.args.self in
    c.sort_wanted.ensures (unmarked r.first.now r.second.now r.cells.now r.keys)
    (λ i v h p. search (rules, unmarked-is r.first.now r.second.now r.cells.now r.keys))
