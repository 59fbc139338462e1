-- `requirements::domain_at` meets its contract. Assumes nothing.
use mathlib.Core.Path.{◌∙◌}
use Rattle.requirements.proofs.Filling.{row-domain}
use Rattle.requirements.proofs.module.domain_at.Goals as goal

pub returns : goal.returns
returns c =
    c.domain_number.ensures ∙ c.classify_import.ensures
    ∙ row-domain _ _ _ c.name-source.ensures.0 c.name-field.ensures.0
