-- `put_form` meets its contract. Assumes nothing.
use Rattle.policy.specs.View.{says}
use Rattle.output.proofs.Writing.{added_then}
use Rattle.policy_text.proofs.WriteLaws.{form-text}
use Rattle.policy_text.proofs.put_form.Goals as goal

pub put_rules-requires : goal.put_rules-requires
put_rules-requires c = (c.requires.0, c.requires.2)

pub returns-clause-added : goal.returns-clause-added
unfolding says
returns-clause-added c =
    let a = c.args in
    rw (form-text (says a.s.now a.p))
    (added_then c.put.ensures.added
    (added_then c.put_name.ensures.added
    (added_then c.put-2.ensures.added
    (added_then c.put_stance.ensures.added (added_then c.put-3.ensures.added c.put_rules.ensures.added)))))
