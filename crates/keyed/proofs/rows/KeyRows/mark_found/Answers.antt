-- `KeyRows::mark_found` meets its contract: the rows below i are there. Assumes nothing.
use mathlib.Core.Path.{refl, ◌∙◌, ap}
use native.Mathlib.Omega.{arith}
use borrow.Author.Rules.{rules}
use Rattle.keyed.specs.Keying.{single}
use Rattle.keyed.proofs.Filling.{no_rows, one-row}
use Rattle.keyed.proofs.Searching.{others-order, others-end}
use Rattle.keyed.proofs.Seeking.{found-is}
use Rattle.keyed.proofs.rows.KeyRows.mark_found.Goals as goal

pub loop-i-init : goal.loop-i-init
loop-i-init c = (omega arith, refl, no_rows single _ _ c.requires.found_value.0)

pub seek-requires-clause-i_lt_n : goal.seek-requires-clause-i_lt_n
seek-requires-clause-i_lt_n c =
    let p = c.requires.found_value in
    (c.loop-i-test.true, others-order _ _ _ c.others.ensures p.1, others-end _ _ _ c.others.ensures p.1, p.2)

pub loop-i-preserved : goal.loop-i-preserved
loop-i-preserved c = (
  omega arith,
  search rules,
  one-row single _ _ 1 (λ x. refl) _ _ c.loop-i-test.true (omega (arith, c.requires.found_value.3)) c.loop-i.invariant.2
      (ap single (c.from.ensures ∙ found-is _ _ _ _ _ _ c.others.ensures c.seek.ensures c.in-Some.is))
      c.put_row.ensures,
)
