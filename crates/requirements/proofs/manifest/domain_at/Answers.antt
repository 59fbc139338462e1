-- `interfaces::domain_at` meets its contract. Assumes nothing.
use mathlib.Core.Path.{◌∙◌}
use Rattle.requirements.proofs.Asking.{row-domain}
use Rattle.requirements.proofs.manifest.domain_at.Goals as goal

pub returns : goal.returns
returns c = c.domain_number.ensures ∙ c.classify_path.ensures ∙ row-domain _ _ _ c.name-path.ensures.0
