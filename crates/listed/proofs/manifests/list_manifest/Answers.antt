-- `list_manifest` meets its contract. Assumes nothing.
use native.Mathlib.Omega.{arith}
use Rattle.listed.specs.Manifests.{manifest_bytes, manifest_told}
use Rattle.listed.proofs.Laying.{delivers-none}
use Rattle.listed.proofs.OfManifest.{manifest-refused, manifest-found, manifest-counted, manifest-delivered}
use Rattle.listed.proofs.manifests.list_manifest.Goals as goal

pub list_paths-requires : goal.list_paths-requires
list_paths-requires c = manifest-counted (manifest-found _ c.read_manifest.ensures c.in-Ok.is) (omega arith) (omega arith)

pub returns-in-Err : goal.returns-in-Err
returns-in-Err c = delivers-none manifest_bytes manifest_told (manifest-refused _ c.read_manifest.ensures c.in-Err.is) c.no_manifest.ensures

pub returns-in-Ok : goal.returns-in-Ok
returns-in-Ok c = manifest-delivered (manifest-found _ c.read_manifest.ensures c.in-Ok.is) c.list_paths.ensures
