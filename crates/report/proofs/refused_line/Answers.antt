-- `refused_line` meets its contract. Assumes nothing.
use Rattle.report.specs.Line.{empty}
use Rattle.report.specs.Texts.{refused_text}
use Rattle.report.proofs.Lines.{then, whole}
use Rattle.report.proofs.refused_line.Goals as goal

pub returns : goal.returns
unfolding refused_text
returns c =
    whole _
    (then empty _ _ c.begin-a.ensures
    (then c.begin-a.result _ _ c.add_number-b.ensures
    (then c.add_number-b.result _ _ c.add-c.ensures
    (then c.add-c.result _ _ c.add_number-d.ensures c.add.ensures))))
