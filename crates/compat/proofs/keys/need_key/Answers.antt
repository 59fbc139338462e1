-- `compat::keys::need_key` meets its contract. Assumes nothing.
use mathlib.Core.Path.{◌∙◌}
use Rattle.compat.proofs.Making.{need-key-is}
use Rattle.compat.proofs.keys.need_key.Goals as goal

pub returns : goal.returns
returns c =
    need-key-is _ _ _ _ c.name-source.ensures.0 c.name-field.ensures.0 c.cell.ensures c.cell-2.ensures
    (c.domain_number.ensures ∙ c.classify_import.ensures) c.cell-3.ensures
