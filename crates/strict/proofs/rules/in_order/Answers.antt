-- `strict::rules::in_order` meets its contract: what is left answers as the whole does. Assumes nothing.
use Prim.Native.Nat.{ℕ, ◌+◌}
use lib.ListN.{drop}
use mathlib.Core.Path.{◌∙◌, ap}
use Rattle.strict.proofs.Ruling.{order-whole, order-ends, order-passes, order_on, order-none}
use Rattle.strict.specs.Rules.{ordered_from, column_of}
use Rattle.strict.proofs.rules.in_order.Goals as goal
use Rattle.strict.proofs.rules.in_order.Goals.{then-place-ne-CUSTOM+else-place-last, else-place-ne-CUSTOM}

pub loop-i-init : goal.loop-i-init
loop-i-init c = order-whole _ _ _ _

pub returns-then-place-last : goal.returns-then-place-last
returns-then-place-last c =
    order-ends _ _ _ _ _ _ c.cell.ensures c.section_place-place.ensures c.loop-i-test.true c.if-place-ne-CUSTOM.true c.if-place-last.true
    ∙ c.loop-i.invariant

pub loop-i-preserved : goal.loop-i-preserved
loop-i-preserved c =
    elim c.if-place-ne-CUSTOM.branch [
      | then-place-ne-CUSTOM+else-place-last w ↦
          ap (λ (p : ℕ). ordered_from p (drop (c.loop-i.i + 1) (column_of c.args.sections.now 5 0 c.args.n))) w.last-is
          ∙ order_on _ _ _ _ _ _ c.cell.ensures c.section_place-place.ensures c.loop-i-test.true
          w.if-place-ne-CUSTOM.true w.if-place-last.false
          ∙ c.loop-i.invariant
      | else-place-ne-CUSTOM w ↦
          ap (λ (p : ℕ). ordered_from p (drop (c.loop-i.i + 1) (column_of c.args.sections.now 5 0 c.args.n))) w.last-is
          ∙ order-passes _ _ _ _ _ _ c.cell.ensures c.section_place-place.ensures c.loop-i-test.true w.if-place-ne-CUSTOM.false
          ∙ c.loop-i.invariant
    ]

pub returns : goal.returns
returns c = order-none _ _ _ _ _ _ c.loop-i-test.false ∙ c.loop-i.invariant
