-- `list_paths` meets its contract. Assumes nothing.
use native.Mathlib.Omega.{arith}
use mathlib.Core.Path.{refl, sym}
use lib.Seq.{length-take-le}
use Rattle.listed.specs.Manifests.{manifest_bytes, manifest_told}
use Rattle.listed.proofs.Laying.{delivers-none}
use Rattle.listed.proofs.OfManifest.{paths-refused, paths-found, paths-inside, paths-short}
use Rattle.listed.proofs.OfManifest.{imports-stop, exports-stop, paths-delivered}
use Rattle.listed.proofs.manifests.list_paths.Goals as goal

pub slice_bounds-imported-end : goal.slice_bounds-imported-end
slice_bounds-imported-end c = omega (arith, paths-inside (paths-found c.all_imports.ensures refl c.in-Ok.is))

pub slice_bounds-lay_manifest-end : goal.slice_bounds-lay_manifest-end
slice_bounds-lay_manifest-end c = sym (length-take-le _ _ (paths-inside (paths-found c.all_imports.ensures refl c.in-Ok.is)))

pub slice_bounds-exported-end : goal.slice_bounds-exported-end
slice_bounds-exported-end c = omega (arith, paths-inside (paths-found c.all_exports.ensures refl c.in-Ok-all_exports.is))

pub slice_bounds-lay_manifest-end-in-Ok-all_exports : goal.slice_bounds-lay_manifest-end-in-Ok-all_exports
slice_bounds-lay_manifest-end-in-Ok-all_exports c =
    sym (length-take-le _ _ (paths-inside (paths-found c.all_exports.ensures refl c.in-Ok-all_exports.is)))

pub lay_manifest-requires : goal.lay_manifest-requires
lay_manifest-requires c =
    let i = paths-found c.all_imports.ensures refl c.in-Ok.is in
    let e = paths-found c.all_exports.ensures refl c.in-Ok-all_exports.is in
    record {
      manifest_counted = c.requires;
      short = record { imported-few = paths-short i (omega arith); exported-few = paths-short e (omega arith) };
    }

pub returns-in-Err : goal.returns-in-Err
returns-in-Err c =
    delivers-none manifest_bytes manifest_told
    (imports-stop _ _ _ _ _ _ (paths-refused c.all_imports.ensures c.in-Err.is))
    c.no_manifest.ensures

pub returns-in-Err-all_exports : goal.returns-in-Err-all_exports
returns-in-Err-all_exports c =
    let i = paths-found c.all_imports.ensures refl c.in-Ok.is in
    delivers-none manifest_bytes manifest_told
    (exports-stop _ _ _ _ _ _ i.first (paths-refused c.all_exports.ensures c.in-Err-all_exports.is))
    c.no_manifest-in-Err-all_exports.ensures

pub returns-in-Ok-all_exports : goal.returns-in-Ok-all_exports
returns-in-Ok-all_exports c =
    paths-delivered _ _ _ _ _ _ (paths-found c.all_imports.ensures refl c.in-Ok.is)
    (paths-found c.all_exports.ensures refl c.in-Ok-all_exports.is) c.lay_manifest.ensures
