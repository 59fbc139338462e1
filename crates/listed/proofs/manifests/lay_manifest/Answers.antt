-- `lay_manifest` meets its contract. Assumes nothing.
use native.Mathlib.Omega.{arith}
use mathlib.Core.Path.{sym}
use lib.ListN.{length-take}
use lib.Seq.{length-take-le}
use Rattle.listed.specs.Manifests.{manifest_by}
use Rattle.listed.proofs.Laying.{lays}
use Rattle.listed.proofs.manifests.lay_manifest.Goals as goal

pub slice_bounds-lay_four-end : goal.slice_bounds-lay_four-end
slice_bounds-lay_four-end c = sym (length-take-le _ _ (omega arith))

pub slice_bounds-lay_four-end-2 : goal.slice_bounds-lay_four-end-2
slice_bounds-lay_four-end-2 c = sym (length-take-le _ _ (omega arith))

pub lay_four-w-requires : goal.lay_four-w-requires
lay_four-w-requires c = simp length-take (omega arith)

pub returns : goal.returns
returns c = lays (manifest_by _ _ _) c.lay_four-w.ensures c.manifest_of.ensures
