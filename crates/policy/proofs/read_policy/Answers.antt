-- `read_policy` meets its contract. Assumes nothing.
use Rattle.std.proofs.Common.{rules}
use Rattle.refusal.specs.Said.{follow}
use Rattle.policy.specs.Reader.{read_with, read_policy}
use Rattle.policy.proofs.read_policy.Goals as goal

pub returns-in_err-test_text : goal.returns-in_err-test_text
unfolding read_policy read_with follow
returns-in_err-test_text c = search rules

pub returns : goal.returns
unfolding read_policy read_with follow
returns c = search rules
