-- `put_stance` meets its contract. Assumes nothing.
use Rattle.policy_text.specs.Writer.{stance_word}
use Rattle.policy_text.proofs.put_stance.Goals as goal

pub returns-then-allow-clause-added : goal.returns-then-allow-clause-added
unfolding stance_word
returns-then-allow-clause-added c = rw c.if-allow.true c.put.ensures.added

pub returns-else-allow-clause-added : goal.returns-else-allow-clause-added
unfolding stance_word
returns-else-allow-clause-added c = rw c.if-allow.false c.put-else-allow.ensures.added
