-- `requirements::list_functions` meets its contract. Assumes nothing.
use Prim.Native.Nat.{ℕ}
use mathlib.Core.Path.{sym, ◌∙◌, ap}
use mathlib.Core.List.{[]}
use Rattle.table.specs.Table.{laid}
use Rattle.import_rows.proofs.Asking.{kind-hit, kind-miss}
use Rattle.requirements.proofs.Filling.{fill-begin, fill-hit, fill-miss, fill_end}
use Rattle.requirements.proofs.module.list_functions.Goals.{then-cell-eq-FUNC, else-cell-eq-FUNC}
use Rattle.requirements.proofs.module.list_functions.Goals as goal

pub loop-i-init : goal.loop-i-init
loop-i-init c =
    fill-begin _ _ _ _ _ (c.clear.ensures ∙ ap (λ (k : ℕ). laid k []) (sym c.clear.auto.table))
    (c.clear-2.ensures ∙ ap (λ (k : ℕ). laid k []) (sym c.clear-2.auto.table))

pub loop-i-preserved : goal.loop-i-preserved
loop-i-preserved c =
    let l = c.loop-i in
    let t = c.loop-i-test.true in
    elim c.if-cell-eq-FUNC.branch [
      | then-cell-eq-FUNC w ↦ fill-hit l.invariant t (kind-hit _ _ c.cell.ensures w.if-cell-eq-FUNC.true) (cc) (cc) w.found-is
      | else-cell-eq-FUNC w ↦
          fill-miss l.invariant t (kind-miss _ _ c.cell.ensures w.if-cell-eq-FUNC.false) w.domains-is w.rows-is w.found-is
    ]

pub returns : goal.returns
returns c = fill_end c.loop-i.invariant c.loop-i-test.false c.clear.auto.table c.clear-2.auto.table
