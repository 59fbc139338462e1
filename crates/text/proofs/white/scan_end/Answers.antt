-- `scan_end` meets its contract: where the last character passed that stays ends, unless one of those left does. Assumes nothing.
use mathlib.Core.Path.{sym, ◌∙◌}
use native.Mathlib.Omega.{arith}
use Rattle.text.specs.Trim.{trim_end}
use Rattle.text.proofs.CharLaws.{turned, more-long, ends-start, end-white, end-other, end-end}
use Rattle.text.proofs.white.scan_end.Goals as goal

pub loop-at-init : goal.loop-at-init
unfolding trim_end
loop-at-init c = (omega arith, ends-start _)

pub overflow_add-at-in-loop-at : goal.overflow_add-at-in-loop-at
overflow_add-at-in-loop-at c = omega (arith, more-long c.args.s.now c.loop-at.at (omega arith))

pub loop-at-preserved-then-not-is_white : goal.loop-at-preserved-then-not-is_white
loop-at-preserved-then-not-is_white c =
    let h = turned c.args.s.now c.loop-at.at (omega arith) c.char_at-code.ensures c.is_white.ensures in
    let e = end-other c.args.s.now c.loop-at.last c.loop-at.at (omega arith) (h.test ∙ c.if-not-is_white.true) in
    rw h.next (omega (arith, h), c.loop-at.invariant.1 ∙ e)

pub loop-at-preserved : goal.loop-at-preserved
loop-at-preserved c =
    let h = turned c.args.s.now c.loop-at.at (omega arith) c.char_at-code.ensures c.is_white.ensures in
    let e = end-white c.args.s.now c.loop-at.last c.loop-at.at (omega arith) (h.test ∙ c.if-not-is_white.false) in
    rw h.next (omega (arith, h), c.loop-at.invariant.1 ∙ e)

pub returns : goal.returns
returns c = sym (c.loop-at.invariant.1 ∙ end-end c.args.s.now c.loop-at.last c.loop-at.at (omega arith))
