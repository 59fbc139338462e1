-- `keyed::marks::mark_missing` meets its contract: the rows below i are there. Assumes nothing.
use mathlib.Core.Path.{◌≡◌, refl, ◌∙◌, ap}
use native.Mathlib.Omega.{arith}
use borrow.Author.Rules.{rules}
use Rattle.keyed.specs.Keying.{single, lonely}
use Rattle.keyed.proofs.Filling.{no_rows, one-row}
use Rattle.keyed.proofs.Searching.{others-order, others-end, found-other, lonely-met, lonely-kept}
use Rattle.keyed.proofs.marks.mark_missing.Goals.{then-found, else-found}
use Rattle.keyed.proofs.marks.mark_missing.Goals as goal

pub loop-i-init : goal.loop-i-init
loop-i-init c = (omega arith, refl, no_rows single _ _ c.requires.0)

pub offset_bounds-ranks-others : goal.offset_bounds-ranks-others
offset_bounds-ranks-others c =
    omega (arith, others-order _ _ _ c.others.ensures c.requires.1, others-end _ _ _ c.others.ensures c.requires.1, c.requires.2)

pub slice_bounds-contains-count : goal.slice_bounds-contains-count
slice_bounds-contains-count c = others-order _ _ _ c.others.ensures c.requires.1

pub slice_bounds-contains-start : goal.slice_bounds-contains-start
slice_bounds-contains-start c =
    omega (arith, others-order _ _ _ c.others.ensures c.requires.1, others-end _ _ _ c.others.ensures c.requires.1, c.requires.2)

pub slice_bounds-contains-end : goal.slice_bounds-contains-end
slice_bounds-contains-end c =
    omega (arith, others-order _ _ _ c.others.ensures c.requires.1, others-end _ _ _ c.others.ensures c.requires.1, c.requires.2)

pub loop-i-preserved : goal.loop-i-preserved
loop-i-preserved c =
    let other = found-other _ _ _ _ c.others.ensures c.requires.1 c.requires.2 c.contains-found.ensures.value in
    let kept : c.if-found.put_row ≡ lonely c.args.ranks.now c.args.nb c.args.n c.loop-i.i =
    elim c.if-found.branch [
      | then-found w ↦ w.put_row-is ∙ lonely-met _ _ _ _ (other ∙ w.if-found.true)
      | else-found w ↦ w.put_row-is ∙ lonely-kept _ _ _ _ (other ∙ w.if-found.false)
    ] in (
      omega arith,
      search rules,
      one-row single _ _ 1 (λ x. refl) _ _ c.loop-i-test.true (omega (arith, c.requires.3)) c.loop-i.invariant.2 (ap single kept)
          c.put_row.ensures,
    )
