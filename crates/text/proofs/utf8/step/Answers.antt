-- `text::utf8::step` meets its contract: so many bytes as the first asks for are left and tested, or there are too few. Assumes nothing.
use mathlib.Core.Bool.{true, false}
use native.Mathlib.Omega.{arith}
use Rattle.text.specs.Steps.{sequence_of}
use Rattle.text.proofs.Utf8Laws.{step-1, step-2, step-3, step-4, short-2, short-3, short-4}
use Rattle.text.proofs.utf8.step.Goals as goal
use Rattle.text.proofs.utf8.step.Goals.{else-left-ge2-via-then-left-ge2+else-two, else-left-ge2-via-else-left-ge2}
use Rattle.text.proofs.utf8.step.Goals.{else-left-ge3-via-then-left-ge3+else-three, else-left-ge3-via-else-left-ge3}
use Rattle.text.proofs.utf8.step.Goals.{else-left-ge4-via-then-left-ge4+else-four, else-left-ge4-via-else-left-ge4}

pub returns-then-a-lt128 : goal.returns-then-a-lt128
returns-then-a-lt128 c =
    let x = c.args in
    step-1 x.s.now x.at (omega arith) c.if-a-lt128.true

pub returns-then-two : goal.returns-then-two
unfolding sequence_of
returns-then-two c =
    let x = c.args in
    step-2 x.s.now x.at c.two.result true (omega arith) c.two.ensures c.if-two.true

pub returns-then-a-lt224 : goal.returns-then-a-lt224
unfolding sequence_of
returns-then-a-lt224 c =
    let x = c.args in
    elim c.else-left-ge2.branch [
      | else-left-ge2-via-then-left-ge2+else-two w ↦
          step-2 x.s.now x.at w.two.result false (omega (arith, w.if-left-ge2.true)) w.two.ensures w.if-two.false
      | else-left-ge2-via-else-left-ge2 w ↦
          short-2 x.s.now x.at (omega arith) (omega arith) (omega arith) (omega (arith, w.if-left-ge2.false))
    ]

pub returns-then-three : goal.returns-then-three
unfolding sequence_of
returns-then-three c =
    let x = c.args in
    step-3 x.s.now x.at c.three.result true (omega arith) c.three.ensures c.if-three.true

pub returns-then-a-lt240 : goal.returns-then-a-lt240
unfolding sequence_of
returns-then-a-lt240 c =
    let x = c.args in
    elim c.else-left-ge3.branch [
      | else-left-ge3-via-then-left-ge3+else-three w ↦
          step-3 x.s.now x.at w.three.result false (omega (arith, w.if-left-ge3.true)) w.three.ensures w.if-three.false
      | else-left-ge3-via-else-left-ge3 w ↦
          short-3 x.s.now x.at (omega arith) (omega arith) (omega arith) (omega (arith, w.if-left-ge3.false))
    ]

pub returns-then-four : goal.returns-then-four
unfolding sequence_of
returns-then-four c =
    let x = c.args in
    step-4 x.s.now x.at c.four.result true (omega arith) c.four.ensures c.if-four.true

pub returns : goal.returns
unfolding sequence_of
returns c =
    let x = c.args in
    let byte = c.type_inv.s x.at in
    elim c.else-left-ge4.branch [
      | else-left-ge4-via-then-left-ge4+else-four w ↦
          step-4 x.s.now x.at w.four.result false (omega (arith, w.if-left-ge4.true)) w.four.ensures w.if-four.false
      | else-left-ge4-via-else-left-ge4 w ↦
          short-4 x.s.now x.at (omega arith) (omega arith) (omega arith) (omega (arith, w.if-left-ge4.false))
    ]
