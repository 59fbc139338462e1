-- `differences::change_slug` meets its contract. Assumes nothing.
use mathlib.Core.Path.{sym, ◌∙◌, ap}
use Rattle.refusal.specs.Slug.{slug_of}
use Rattle.differences.specs.declared.Change.{Change}
use Rattle.differences.specs.Rank.{change_word}
use Rattle.differences.proofs.change_slug.Goals as goal

pub returns-in-Removed : goal.returns-in-Removed
returns-in-Removed c = c.slug_of.ensures ∙ ap (λ (k : Change). slug_of (change_word k)) (sym c.in-Removed.is)

pub returns-in-Added : goal.returns-in-Added
returns-in-Added c = c.slug_of-in-Added.ensures ∙ ap (λ (k : Change). slug_of (change_word k)) (sym c.in-Added.is)
