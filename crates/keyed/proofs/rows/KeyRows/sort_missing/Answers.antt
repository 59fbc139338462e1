-- `KeyRows::sort_missing` meets its contract: the ranks of all wanted rows say which are missing, and in which order. Assumes nothing.
use mathlib.Core.Path.{sym, ◌∙◌, ap}
use mathlib.Core.List.{List}
use Prim.Native.Nat.{ℕ}
use lib.Seq.{length-take-le}
use Rattle.keyed.specs.Keying.{same_key, ranked}
use Rattle.keyed.proofs.Listing.{not_full, list_count, list-is, list_length, list-fits, missing-done}
use Rattle.sorting.specs.Keys.{sorted_rows, Sorts}
use Rattle.keyed.proofs.rows.KeyRows.sort_missing.Goals.{After-sort}
use Rattle.keyed.proofs.rows.KeyRows.sort_missing.Goals as goal

-- the first list, by the keys' own columns
sorts : (c : After-sort) → Sorts (sorted_rows c.args.self.first.now c.args.self.second.now c.args.self.keys.now c.columns.result c.args.n)
    c.args.numbers.now c.sort.new.sorted c.sort.result
sorts c = rw c.by.ensures at c.sort.ensures

pub returns-in_err-m : goal.returns-in_err-m
returns-in_err-m c =
    absurd (not_full _ _ _ _ c.columns.ensures (sorts (goal.at.returns-in_err-m c).After-sort) c.requires.nb_le_n.3 (rw c.in_err-m.is at c.branch-m.ensures))

pub slice_bounds-number_rows-end : goal.slice_bounds-number_rows-end
slice_bounds-number_rows-end c =
    list_count _ _ _ _ c.columns.ensures (sorts (goal.at.slice_bounds-number_rows-end c).After-sort) c.requires.nb_le_n.3 _ (rw c.in_ok-m.is at c.branch-m.ensures)

pub slice_bounds-number_rows-end-2 : goal.slice_bounds-number_rows-end-2
slice_bounds-number_rows-end-2 c =
    let few = list_count _ _ _ _ c.columns.ensures (sorts (goal.at.slice_bounds-number_rows-end-2 c).After-sort) c.requires.nb_le_n.3 _ (rw c.in_ok-m.is at c.branch-m.ensures) in
    sym (length-take-le _ _ few)

pub number_rows-requires : goal.number_rows-requires
number_rows-requires c =
    list-fits _ _ _ _ c.columns.ensures (sorts (goal.at.number_rows-requires c).After-sort) c.requires.nb_le_n.3 _ (rw c.in_ok-m.is at c.branch-m.ensures) _ c.requires.nb_le_n.1

pub returns : goal.returns
returns c =
    let p = c.requires.nb_le_n in
    let a = c.args in
    let r = a.self in
    missing-done r.first.now r.second.now r.keys.now a.nb a.n p.0 a.every _ _ p.1 c.requires.ranks_value.0
    (c.number_rows.ensures
    ∙ ap (λ (l : List ℕ). ranked (same_key r.first.now r.second.now r.keys.now) l a.ranks.now)
    (list-is _ _ _ _ c.columns.ensures (sorts (goal.at.returns c).After-sort) p.3 _ (rw c.in_ok-m.is at c.branch-m.ensures)))
    c.mark_missing.ensures (rw c.by_rank.ensures at c.sort_others.ensures)
    (list_length _ _ _ _ c.columns.ensures (sorts (goal.at.returns c).After-sort) p.3) p.3
