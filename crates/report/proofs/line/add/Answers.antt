-- `add` meets its contract: what is left of the bytes is yet to be added. Assumes nothing.
use mathlib.Core.Path.{sym, ◌∙◌}
use Rattle.report.proofs.Lines.{turn, done}
use Rattle.report.proofs.line.add.Goals as goal

pub loop-b-preserved : goal.loop-b-preserved
loop-b-preserved c =
    let s = c.args.bytes.now in
    c.loop-b.invariant ∙ turn c.loop-b.line s c.loop-b.b-index c.loop-b-test.true c.add_byte-line.ensures

pub returns : goal.returns
returns c = sym (c.loop-b.invariant ∙ done _ _ _ c.loop-b-test.false)
