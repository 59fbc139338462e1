-- wit.rs with lent tables: the answer in a struct of numbers, all zero but number and place on a refusal. Assumes nothing.
use Rattle.std.specs.Prelude.{false, ◌≡◌}
use Rattle.std.specs.Option.{is_some}
use Rattle.refusal.specs.Said.{Said, accepted, refused, number_at, follow}
use Rattle.wit.specs.declared.Manifest.{Manifest}
use Rattle.wit.specs.Manifest.{ManifestSizes, State, ManifestLent, ManifestHolds, manifest_held, manifest_of}
use Rattle.judged.specs.Rows.{part_told}
use Rattle.judged.specs.declared.manifests.ManifestTold.{ManifestTold}

abbrev pub manifest_answer : Said Manifest → ManifestTold
manifest_answer (accepted m) =
    record {
      number = 0;
      place = 0;
      packaged = is_some m.package;
      start = (part_told m.package).from;
      size = (part_told m.package).len;
      worlds = m.worlds;
      references = m.references;
    }
manifest_answer (refused n p) =
    record { number = n; place = number_at p; packaged = false; start = 0; size = 0; worlds = 0; references = 0 }

-- the answer, and what both tables hold at the end
pub record ManifestTells (z : ManifestSizes) (x : Said State) (l : ManifestLent) (r : ManifestTold) : Type 0 where
  pub answer-is : r ≡ manifest_answer (follow x (λ t. accepted (manifest_of t)))
  pub tables-are : ManifestHolds l z (manifest_held x)
