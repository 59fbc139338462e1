-- `splits_at` meets its contract. Assumes nothing.
use mathlib.Core.Path.{◌∙◌}
use native.Mathlib.Omega.{arith}
use Rattle.wit.proofs.LineLaws.{splits-other, splits-next, splits_last}
use Rattle.wit.proofs.line.splits_at.Goals as goal

pub returns-then-s-i-ne58 : goal.returns-then-s-i-ne58
returns-then-s-i-ne58 c =
    let a = c.args in
    splits-other a.s.now a.i (omega arith) c.if-s-i-ne58.true

pub returns-then-j-s : goal.returns-then-j-s
returns-then-j-s c = c.is_ascii_whitespace.ensures.value ∙ splits-next _ _ (omega arith) c.if-s-i-ne58.false c.if-j-s.true

pub returns : goal.returns
returns c = splits_last _ _ (omega arith) c.if-s-i-ne58.false c.if-j-s.false
