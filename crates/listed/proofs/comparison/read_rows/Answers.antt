-- `read_rows` meets its contract. Assumes nothing.
use Rattle.std.proofs.Common.{rules}
use Rattle.listed.proofs.OfModule.{rows-read}
use Rattle.listed.proofs.comparison.read_rows.Goals as goal

pub returns : goal.returns
returns c = rows-read _ c.read_module.ensures.read (search rules) (search rules)
