-- `trimmed_at` meets its contract. Assumes nothing.
use mathlib.Core.Path.{ap, ◌∙◌}
use native.Mathlib.Omega.{arith}
use Rattle.text.specs.Trim.{trimmed}
use Rattle.text.proofs.PieceLaws.{trim-is, trim-none, trim-ends}
use Rattle.text.proofs.pieces.trimmed_at.Goals as goal

pub returns-in_default : goal.returns-in_default
returns-in_default c = let a = c.args in (trim-none a.s.now a.a a.e c.in_default.ensures.lookup.0, omega arith, omega arith)

pub overflow_add-from : goal.overflow_add-from
overflow_add-from c =
    let a = c.args in
    let k = c.in-Some.ensures.lookup.0 in
    let t = trim-is a.s.now a.a a.e c.trim-t.result k.0 k.1 (c.trim-t.ensures ∙ ap trimmed k.2) in
    omega (arith, t)

pub overflow_add-result : goal.overflow_add-result
overflow_add-result c =
    let a = c.args in
    let k = c.in-Some.ensures.lookup.0 in
    let t = trim-is a.s.now a.a a.e c.trim-t.result k.0 k.1 (c.trim-t.ensures ∙ ap trimmed k.2) in
    omega (arith, t)

pub returns : goal.returns
returns c =
    let a = c.args in
    let k = c.in-Some.ensures.lookup.0 in
    let t = trim-is a.s.now a.a a.e c.trim-t.result k.0 k.1 (c.trim-t.ensures ∙ ap trimmed k.2) in
    (trim-ends a.s.now a.a a.e k.0 k.1 t, omega (arith, t), omega (arith, t))
