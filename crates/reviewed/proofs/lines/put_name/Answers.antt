-- `lines::put_name` meets its contract. Assumes nothing.
use Prim.Native.Nat.{ℕ}
use mathlib.Core.List.{List}
use mathlib.Core.Path.{ap}
use Rattle.reviewed.specs.Texts.{name_text}
use Rattle.reviewed.proofs.Telling.{added-same, named-yes, named-no}
use Rattle.reviewed.proofs.lines.put_name.Goals as goal

pub returns-then-p-clause-added : goal.returns-then-p-clause-added
returns-then-p-clause-added c =
    let a = c.args in
    added-same (ap (λ (w : List ℕ). name_text w a.p.permit) (named-yes a.text.now a.p c.range.ensures.0 c.if-p.true))
    c.put_named.ensures.added

pub returns-else-p-clause-added : goal.returns-else-p-clause-added
returns-else-p-clause-added c =
    let a = c.args in
    added-same (ap (λ (w : List ℕ). name_text w a.p.permit) (named-no a.text.now a.p c.if-p.false)) c.put_named-else-p.ensures.added
