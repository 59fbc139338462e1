-- `head_of` meets its contract. Assumes nothing.
use mathlib.Core.Path.{ap, ◌∙◌}
use Rattle.domains.specs.Domain.{domain_number}
use Rattle.domains.specs.Classify.{heads}
use Rattle.domains.proofs.Tables.{classed_by_words}
use Rattle.domains.proofs.classify.head_of.Goals as goal

pub returns : goal.returns
unfolding heads
returns c = ap domain_number c.unwrap_or.ensures ∙ classed_by_words _ _ c.lookup.result c.lookup.ensures
