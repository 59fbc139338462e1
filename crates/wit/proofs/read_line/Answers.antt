-- `read_line` meets its contract. Assumes nothing.
use mathlib.Core.Path.{ap}
use native.Mathlib.Omega.{arith}
use Rattle.text.proofs.LineLaws.{line-bounds}
use Rattle.wit.specs.declared.rows.Known.{Known}
use Rattle.wit.proofs.Stepping.{ends-passed, numbered-as}
use Rattle.wit.proofs.Answer.{line-told}
use Rattle.wit.proofs.read_line.Goals as goal

pub directive_at-d-requires : goal.directive_at-d-requires
directive_at-d-requires c =
    let a = c.args in
    omega (arith, c.line_at-l.ensures, line-bounds a.s.now a.at (omega arith))

pub returns : goal.returns
returns c =
    let a = c.args in
    let b = line-bounds a.s.now a.at (omega arith) in (
      ends-passed _ _ _ _ (omega (arith, c.line_at-l.ensures, b)) (omega (arith, c.line_at-l.ensures, b)) c.obey.ensures.0,
      numbered-as _ (ap (λ (x : Known). x.line) c.on_line.ensures) c.obey.ensures.1,
      line-told a.s.now a.at _ _ _ _ _ c.line_at-l.ensures.0 c.line_at-l.ensures.1 c.directive_at-d.ensures
          c.on_line.ensures c.obey.ensures.2,
    )
