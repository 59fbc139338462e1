-- `put_reference` meets its contract. Assumes nothing.
use mathlib.Core.Path.{◌∙◌}
use Rattle.wit.proofs.Stepping.{cells-put}
use Rattle.wit.proofs.rows.put_reference.Goals as goal

pub returns : goal.returns
returns c = c.put_row.ensures ∙ cells-put _ _ _ c.from.ensures c.from-2.ensures c.is_some.ensures c.unwrap_or-signature.ensures
