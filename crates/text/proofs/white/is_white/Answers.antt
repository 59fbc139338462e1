-- `is_white` meets its contract: what a line of the list takes is White_Space, and what no line takes is not. Assumes nothing.
use Rattle.text.specs.Ranges.{in_some}
use Rattle.text.specs.White.{whites, is_white}
use Rattle.text.proofs.CharLaws.{white-in, missed, only}
use Rattle.text.proofs.white.is_white.Goals as goal

pub returns-then-in_range : goal.returns-then-in_range
unfolding whites
returns-then-in_range c = white-in 0x9 0xD _ tt c.in_range.ensures c.if-in_range.true

pub returns-then-in_range-2 : goal.returns-then-in_range-2
unfolding whites
returns-then-in_range-2 c = white-in 0x20 0x20 _ tt c.in_range-2.ensures c.if-in_range-2.true

pub returns-then-in_range-3 : goal.returns-then-in_range-3
unfolding whites
returns-then-in_range-3 c = white-in 0x85 0x85 _ tt c.in_range-3.ensures c.if-in_range-3.true

pub returns-then-in_range-4 : goal.returns-then-in_range-4
unfolding whites
returns-then-in_range-4 c = white-in 0xA0 0xA0 _ tt c.in_range-4.ensures c.if-in_range-4.true

pub returns-then-in_range-5 : goal.returns-then-in_range-5
unfolding whites
returns-then-in_range-5 c = white-in 0x1680 0x1680 _ tt c.in_range-5.ensures c.if-in_range-5.true

pub returns-then-in_range-6 : goal.returns-then-in_range-6
unfolding whites
returns-then-in_range-6 c = white-in 0x2000 0x200A _ tt c.in_range-6.ensures c.if-in_range-6.true

pub returns-then-in_range-7 : goal.returns-then-in_range-7
unfolding whites
returns-then-in_range-7 c = white-in 0x2028 0x2028 _ tt c.in_range-7.ensures c.if-in_range-7.true

pub returns-then-in_range-8 : goal.returns-then-in_range-8
unfolding whites
returns-then-in_range-8 c = white-in 0x2029 0x2029 _ tt c.in_range-8.ensures c.if-in_range-8.true

pub returns-then-in_range-9 : goal.returns-then-in_range-9
unfolding whites
returns-then-in_range-9 c = white-in 0x202F 0x202F _ tt c.in_range-9.ensures c.if-in_range-9.true

pub returns-then-in_range-10 : goal.returns-then-in_range-10
unfolding whites
returns-then-in_range-10 c = white-in 0x205F 0x205F _ tt c.in_range-10.ensures c.if-in_range-10.true

pub returns : goal.returns
unfolding is_white whites in_some
returns c =
    rw (
      missed c.in_range.ensures c.if-in_range.false,
      missed c.in_range-2.ensures c.if-in_range-2.false,
      missed c.in_range-3.ensures c.if-in_range-3.false,
      missed c.in_range-4.ensures c.if-in_range-4.false,
      missed c.in_range-5.ensures c.if-in_range-5.false,
      missed c.in_range-6.ensures c.if-in_range-6.false,
      missed c.in_range-7.ensures c.if-in_range-7.false,
      missed c.in_range-8.ensures c.if-in_range-8.false,
      missed c.in_range-9.ensures c.if-in_range-9.false,
      missed c.in_range-10.ensures c.if-in_range-10.false,
    )
    (only c.in_range-11.ensures)
