-- `lines::put_mark` meets its contract. Assumes nothing.
use mathlib.Core.Path.{sym, ◌∙◌}
use Rattle.output.proofs.Writing.{added_none}
use Rattle.reviewed.specs.Texts.{mark_text}
use Rattle.reviewed.proofs.lines.put_mark.Goals as goal

pub returns-then-is_violation-clause-added : goal.returns-then-is_violation-clause-added
unfolding mark_text
returns-then-is_violation-clause-added c = rw (sym c.is_violation.ensures ∙ c.if-is_violation.true) c.put.ensures.added

pub returns-else-is_violation-clause-added : goal.returns-else-is_violation-clause-added
unfolding mark_text
returns-else-is_violation-clause-added c = rw (sym c.is_violation.ensures ∙ c.if-is_violation.false) (added_none c.args.out.now)
