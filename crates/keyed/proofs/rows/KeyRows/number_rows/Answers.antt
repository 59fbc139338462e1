-- `KeyRows::number_rows` meets its contract: what is left of the list, ranked, is all of it. Assumes nothing.
use mathlib.Core.Path.{refl, sym, ◌∙◌}
use native.Mathlib.Omega.{arith}
use borrow.Author.Tests.{eqb-true, eqb-false}
use lib.ListN.{length-set}
use Rattle.sorting.proofs.Sorts.{get_d-mem}
use Rattle.keyed.proofs.Ranking.{ranked-none, ranked-start, ranked-step, ranked-end, rank_most}
use Rattle.keyed.proofs.rows.KeyRows.number_rows.Goals as goal

pub returns-then-is_empty : goal.returns-then-is_empty
returns-then-is_empty c = ranked-none _ _ _ (eqb-true _ _ (sym c.is_empty.ensures ∙ c.if-is_empty.true))

pub loop-i-init : goal.loop-i-init
loop-i-init c = (omega arith, refl, ranked-start _ _ _ (eqb-false _ _ (sym c.is_empty.ensures ∙ c.if-is_empty.false)))

pub offset_bounds-ranks-i : goal.offset_bounds-ranks-i
offset_bounds-ranks-i c = omega (arith, c.requires _ (get_d-mem 0 c.args.list.now c.loop-i.i-index c.loop-i-test.true))

pub bounds-ranks-i : goal.bounds-ranks-i
bounds-ranks-i c = omega (arith, c.requires _ (get_d-mem 0 c.args.list.now c.loop-i.i-index c.loop-i-test.true))

pub loop-i-preserved : goal.loop-i-preserved
loop-i-preserved c =
    let i = c.loop-i.invariant in (
      rank_most _ _ _ c.next_rank-rank.ensures i.0,
      (simp length-set) ∙ i.1,
      ranked-step _ _ _ _ _ _ c.loop-i-test.true c.next_rank-rank.ensures ∙ i.2,
    )

pub returns : goal.returns
returns c = sym (ranked-end _ _ _ _ _ _ c.loop-i-test.false) ∙ c.loop-i.invariant.2
