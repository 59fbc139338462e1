-- `trim_end` meets its contract: what stays of the text stays of its first bytes. Assumes nothing.
use mathlib.Core.Path.{sym, ap, ◌∙◌}
use native.Mathlib.Omega.{arith}
use lib.ListN.{take}
use lib.Seq.{length-take-le}
use Rattle.text.specs.White.{is_white}
use Rattle.text.proofs.CharLaws.{end-long}
use Rattle.text.proofs.TrimLaws.{end_goes, end_stays}
use Rattle.text.proofs.white.trim_end.Goals as goal

pub returns-then-not-is_white : goal.returns-then-not-is_white
returns-then-not-is_white c =
    let no = sym (c.is_white.ensures ∙ ap is_white c.from.ensures) ∙ c.if-not-is_white.true in
    omega (arith, end_stays c.args.s.now c.loop-i.i (omega arith) (omega arith) (omega arith) no)

pub loop-i-preserved : goal.loop-i-preserved
loop-i-preserved c =
    let yes = sym (c.is_white.ensures ∙ ap is_white c.from.ensures) ∙ c.if-not-is_white.false in
    c.loop-i.invariant ∙ end_goes c.args.s.now c.loop-i.i (omega arith) (omega arith) (omega arith) yes

pub returns : goal.returns
returns c =
    let s = c.args.s.now in
    let none = end-long (take c.loop-i.i s) in
    omega (arith, none, length-take-le c.loop-i.i s (omega arith))
