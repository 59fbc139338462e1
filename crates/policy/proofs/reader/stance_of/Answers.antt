-- `stance_of` meets its contract. Assumes nothing.
use Rattle.policy.specs.Reader.{stance_of}
use Rattle.policy.proofs.reader.stance_of.Goals as goal

pub returns-then-allow : goal.returns-then-allow
unfolding stance_of
returns-then-allow c = rw c.if-allow.true

pub returns-else-allow : goal.returns-else-allow
unfolding stance_of
returns-else-allow c = rw c.if-allow.false
