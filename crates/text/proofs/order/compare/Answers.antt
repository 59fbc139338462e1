-- `compare` meets its contract: `cmp` of slices is `cmp_bytes`. Assumes nothing.
use mathlib.Core.Path.{◌∙◌}
use Rattle.text.proofs.SliceLaws.{cmp_slices}
use Rattle.text.proofs.order.compare.Goals as goal

pub returns : goal.returns
returns c = let a = c.args in c.cmp.ensures ∙ cmp_slices a.a.now a.b.now
