-- `starts` meets its contract: `starts_with` of slices is `begins`. Assumes nothing.
use mathlib.Core.Path.{◌∙◌}
use Rattle.text.proofs.SliceLaws.{begins_slices}
use Rattle.text.proofs.order.starts.Goals as goal

pub returns : goal.returns
returns c = let a = c.args in c.starts_with.ensures.value ∙ begins_slices a.w.now a.s.now
