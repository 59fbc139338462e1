-- `strict::quick::all_new` meets its contract: the names from row i on are different, and their prints are marked. Assumes nothing.
use mathlib.Core.Path.{refl}
use Rattle.strict.proofs.Newness.{row_named, look-start, look-on, look-end}
use native.Mathlib.Omega.{arith}
use Rattle.strict.proofs.quick.all_new.Goals as goal

pub loop-i-init : goal.loop-i-init
loop-i-init c = (look-start _ _ _ _ _ _, refl)

pub loop-i-preserved : goal.loop-i-preserved
loop-i-preserved c =
    let l = c.loop-i in (
      look-on _ _ _ _ _ l.invariant.0 (omega (arith, c.loop-i-test.true))
          (row_named _ _ _ c.range.ensures.0 c.cell-from.ensures c.cell-len.ensures)
          c.print_of-print.ensures (c.if-not-is_new.ensures refl) c.note.ensures,
      omega (arith, c.note.ensures.as_long, l.invariant.1),
    )

pub returns : goal.returns
returns c = λ e. look-end _ _ _ _ _ c.loop-i.invariant.0 c.loop-i-test.false
