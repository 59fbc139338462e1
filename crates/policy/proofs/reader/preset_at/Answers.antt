-- `preset_at` meets its contract. Assumes nothing.
use mathlib.Core.Path.{sym, ◌∙◌}
use native.Mathlib.Omega.{arith}
use Rattle.text.proofs.PieceLaws.{trim-to}
use Rattle.policy.proofs.HeardLaws.{preset-allow, preset-deny, preset-bad}
use Rattle.policy.proofs.reader.preset_at.Goals as goal

pub returns-then-equal : goal.returns-then-equal
returns-then-equal c =
    let a = c.args in
    preset-allow a.s.now a.a a.e a.line c.trimmed_at-t.result.from c.trimmed_at-t.result.past
    (trim-to a.s.now a.a a.e (omega arith) (omega arith) c.trimmed_at-t.ensures.0)
    (sym c.equal.ensures ∙ c.if-equal.true)

pub returns-then-equal-2 : goal.returns-then-equal-2
returns-then-equal-2 c =
    let a = c.args in
    preset-deny a.s.now a.a a.e a.line c.trimmed_at-t.result.from c.trimmed_at-t.result.past
    (trim-to a.s.now a.a a.e (omega arith) (omega arith) c.trimmed_at-t.ensures.0)
    (sym c.equal.ensures ∙ c.if-equal.false) (sym c.equal-2.ensures ∙ c.if-equal-2.true)

pub returns : goal.returns
returns c =
    let a = c.args in
    preset-bad a.s.now a.a a.e a.line c.trimmed_at-t.result.from c.trimmed_at-t.result.past
    (trim-to a.s.now a.a a.e (omega arith) (omega arith) c.trimmed_at-t.ensures.0)
    (sym c.equal.ensures ∙ c.if-equal.false) (sym c.equal-2.ensures ∙ c.if-equal-2.false)
