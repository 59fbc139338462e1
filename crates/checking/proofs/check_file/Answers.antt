-- `check_file` meets its contract. Assumes nothing.
use Rattle.checking.proofs.Checking.{settled-refused, settled-accepted}
use Rattle.checking.proofs.check_file.Goals as goal

pub returns-in_default : goal.returns-in_default
returns-in_default c = settled-refused _ _ _ c.in_default.ensures c.in_default.in_default-own.refused-1.1

pub returns-in_default-2 : goal.returns-in_default-2
returns-in_default-2 c = settled-accepted _ _ _ c.check_in.ensures c.in_default.in-Ok-own.keys2
