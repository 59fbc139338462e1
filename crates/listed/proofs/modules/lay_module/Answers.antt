-- `lay_module` meets its contract. Assumes nothing.
use native.Mathlib.Omega.{arith}
use mathlib.Core.Path.{sym}
use lib.ListN.{length-take}
use lib.Seq.{length-take-le}
use Rattle.listed.specs.Modules.{module_by}
use Rattle.listed.proofs.Laying.{lays}
use Rattle.listed.proofs.modules.lay_module.Goals as goal

pub slice_bounds-lay_four-end : goal.slice_bounds-lay_four-end
slice_bounds-lay_four-end c = sym (length-take-le _ _ (omega arith))

pub slice_bounds-lay_four-end-2 : goal.slice_bounds-lay_four-end-2
slice_bounds-lay_four-end-2 c = sym (length-take-le _ _ (omega arith))

pub slice_bounds-lay_four-end-3 : goal.slice_bounds-lay_four-end-3
slice_bounds-lay_four-end-3 c = sym (length-take-le _ _ (omega arith))

pub slice_bounds-lay_four-end-4 : goal.slice_bounds-lay_four-end-4
slice_bounds-lay_four-end-4 c = sym (length-take-le _ _ (omega arith))

pub lay_four-requires : goal.lay_four-requires
lay_four-requires c = simp length-take (omega arith)

pub returns : goal.returns
returns c = lays (module_by _) c.lay_four.ensures c.module_of.ensures
