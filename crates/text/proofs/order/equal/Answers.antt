-- `equal` meets its contract: `==` of slices is `same`. Assumes nothing.
use mathlib.Core.Path.{◌∙◌}
use Rattle.text.proofs.SliceLaws.{same_slices}
use Rattle.text.proofs.order.equal.Goals as goal

pub returns : goal.returns
returns c = let a = c.args in c.eq.ensures ∙ same_slices a.s.now a.w.now
