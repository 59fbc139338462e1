-- `Rows::sort_wanted` meets its contract: the table holds the sorted list of the wanted rows passed. Assumes nothing.
use mathlib.Core.Path.{sym, ap, ◌∙◌}
use mathlib.Core.List.{List, []}
use Prim.Native.Nat.{ℕ, ◌-◌}
use native.Mathlib.Omega.{arith}
use lib.ListN.{length}
use Rattle.table.specs.Table.{laid}
use Rattle.sorting.specs.Sort.{sort}
use Rattle.sorting.specs.Filling.{order_of}
use Rattle.sorting.proofs.Rowing.{lawful-rows}
use Rattle.sorting.proofs.Listing.{ordered-step, filled-step, full-step, filled-as}
use Rattle.sorting.proofs.Listing.{kept_from, kept-yes, kept-no, kept-all, kept-grows, sorts-rows, sorts-full}
use Rattle.sorting.proofs.Rows.sort_wanted.Goals as goal

pub returns-in_default : goal.returns-in_default
returns-in_default g c =
    λ wanted told.
    let a = c.args in
    let row = c.loop-i.i - 1 in
    let yes = sym (told row _ (omega arith) c.is_wanted.ensures) ∙ c.if-is_wanted.true in
    let chosen = kept-yes wanted a.n c.loop-i.i row (omega arith) (omega arith) yes in
    let order = order_of a.self in
    let listed = kept_from wanted c.loop-i.i a.n in
    let longer = full-step order listed _ _ _ (c.loop-i.invariant.2 wanted told) row _ c.in_default.is c.insert.ensures in
    let grows = kept-grows order wanted a.n row (omega arith) in
    let one = ap (λ (l : List ℕ). length (sort order l)) chosen in
    let long = c.insert.auto.sorted ∙ c.loop-i.invariant.0 ∙ c.clear.auto.table in
    sorts-full _ _ _ (omega arith) (c.clear-in_default.ensures ∙ ap (λ (m : ℕ). laid m []) long)

pub loop-i-preserved-then-is_wanted : goal.loop-i-preserved-then-is_wanted
loop-i-preserved-then-is_wanted g c =
    let a = c.args in
    let r = a.self in
    let row = c.loop-i.i - 1 in
    let order = order_of r in
    let laws = lawful-rows r.first.now r.second.now r.cells.now r.keys in (
      c.insert.auto.sorted ∙ c.loop-i.invariant.0,
      ordered-step order laws row _ _ _ c.in-Some.more c.loop-i.invariant.1 c.in-Some.is c.insert.ensures c.insert.auto.sorted,
      λ wanted told.
          let yes = sym (told row _ (omega arith) c.is_wanted.ensures) ∙ c.if-is_wanted.true in
          let chosen = kept-yes wanted a.n c.loop-i.i row (omega arith) (omega arith) yes in
          filled-as order (sym chosen)
          (filled-step order (kept_from wanted c.loop-i.i a.n) _ _ _ (c.loop-i.invariant.2 wanted told) row _ c.in-Some.more
          c.in-Some.is c.insert.ensures),
    )

pub loop-i-preserved : goal.loop-i-preserved
loop-i-preserved g c =
    let a = c.args in
    let row = c.loop-i.i - 1 in (
      c.loop-i.invariant.0,
      c.loop-i.invariant.1,
      λ wanted told.
          let no = sym (told row _ (omega arith) c.is_wanted.ensures) ∙ c.if-is_wanted.false in
          let passed = kept-no wanted a.n c.loop-i.i row (omega arith) (omega arith) no in
          filled-as (order_of a.self) (sym passed) (c.loop-i.invariant.2 wanted told),
    )

pub returns : goal.returns
returns g c =
    λ wanted told.
    let order = order_of c.args.self in
    sorts-rows _ _ _ _ _ c.clear.ensures
    (filled-as order (kept-all wanted c.args.n c.loop-i.i (omega arith)) (c.loop-i.invariant.2 wanted told))
    c.loop-i.invariant.0
