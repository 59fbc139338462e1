-- `lines::put_violated` meets its contract. Assumes nothing.
use mathlib.Core.Path.{sym, ◌∙◌}
use Rattle.output.proofs.Writing.{added_none, added_then}
use Rattle.reviewed.specs.Texts.{violated_text}
use Rattle.reviewed.proofs.lines.put_violated.Goals as goal

pub returns-then-is_violation-clause-added : goal.returns-then-is_violation-clause-added
unfolding violated_text
returns-then-is_violation-clause-added c =
    let told = added_then c.put.ensures.added c.put_domain.ensures.added in
    rw (sym c.is_violation.ensures ∙ c.if-is_violation.true) told

pub returns-else-is_violation-clause-added : goal.returns-else-is_violation-clause-added
unfolding violated_text
returns-else-is_violation-clause-added c = rw (sym c.is_violation.ensures ∙ c.if-is_violation.false) (added_none c.args.out.now)
