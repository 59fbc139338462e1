-- `hold_to` meets its contract. Assumes nothing.
use Rattle.std.proofs.Common.{rules}
use Rattle.refusal.specs.Said.{follow}
use Rattle.checking.specs.Checking.{held_to}
use Rattle.checking.proofs.hold_to.Goals as goal

pub returns-in_err-p : goal.returns-in_err-p
unfolding held_to follow
returns-in_err-p c = search rules

pub returns : goal.returns
unfolding held_to follow
returns c = search rules
