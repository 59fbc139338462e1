-- `trim_start` meets its contract: the White_Space passed, and that at the front of what is left. Assumes nothing.
use mathlib.Core.Path.{◌∙◌}
use native.Mathlib.Omega.{arith}
use Rattle.text.specs.Trim.{trim_start}
use Rattle.text.proofs.CharLaws.{turned, start-white, start-other, start-end}
use Rattle.text.proofs.white.trim_start.Goals as goal

pub loop-at-init : goal.loop-at-init
unfolding trim_start
loop-at-init c = omega arith

pub returns-then-not-is_white : goal.returns-then-not-is_white
returns-then-not-is_white c =
    let h = turned c.args.s.now c.loop-at.at (omega arith) c.char_at-code.ensures c.is_white.ensures in
    omega (arith, start-other c.args.s.now c.loop-at.at (omega arith) (h.test ∙ c.if-not-is_white.true))

pub overflow_add-at-in-loop-at : goal.overflow_add-at-in-loop-at
overflow_add-at-in-loop-at c =
    let h = turned c.args.s.now c.loop-at.at (omega arith) c.char_at-code.ensures c.is_white.ensures in
    omega (arith, h)

pub loop-at-preserved : goal.loop-at-preserved
loop-at-preserved c =
    let h = turned c.args.s.now c.loop-at.at (omega arith) c.char_at-code.ensures c.is_white.ensures in
    let e = start-white c.args.s.now c.loop-at.at (omega arith) (h.test ∙ c.if-not-is_white.false) in
    rw h.next (omega (arith, h, e))

pub returns : goal.returns
returns c = omega (arith, start-end c.args.s.now c.loop-at.at (omega arith))
