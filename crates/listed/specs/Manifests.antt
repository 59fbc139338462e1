-- docs/RULES.md, "Texts": a manifest's text, told in a struct of numbers, and its rows and lists of paths as bytes. Assumes nothing.
use Rattle.std.specs.Prelude.{ℕ, ◌*◌, ◌≤◌, true, false, is_some, List, ◌++◌, length, take}
use Rattle.std.specs.Option.{unwrap_or}
use Rattle.refusal.specs.Said.{Said, accepted, refused, follow, Place, number_at}
use Rattle.table.specs.Table.{laid, cells}
use Rattle.table.specs.Shape.{width, limit, full_cells}
use Rattle.output.specs.Cells.{cell_bytes}
use Rattle.wit.specs.Manifest.{ManifestSizes, manifest_at, manifest_of, world_cells, reference_cells}
use Rattle.wit.specs.declared.Manifest.{Manifest}
use Rattle.reference_rows.specs.Queries.{paths_of}
use Rattle.listed.specs.Delivered.{no_part}
use Rattle.listed.specs.declared.manifests.ManifestTold.{ManifestTold}

-- what is listed: the rows of tables 5 and 6, and the rows of table 6 by the paths that are imported and by those that are exported
pub record ManifestListing : Type 0 where
  pub manifest : Manifest
  pub worlds : List ℕ
  pub references : List ℕ
  pub imported : List ℕ
  pub exported : List ℕ

abbrev pub laid_bytes : List ℕ → List ℕ → List ℕ → List ℕ → List ℕ
laid_bytes worlds references imported exported = cell_bytes (worlds ++ references ++ imported ++ exported)

abbrev pub manifest_bytes : ManifestListing → List ℕ
manifest_bytes l = laid_bytes l.worlds l.references l.imported l.exported

-- a refusal: all but number and place is zero
abbrev pub no_manifest : ℕ → Place → ManifestTold
no_manifest n p =
    record {
      number = n;
      place = number_at p;
      packaged = false;
      start = 0;
      size = 0;
      worlds = 0;
      references = 0;
      imported = 0;
      exported = 0;
      bytes = 0;
    }

-- a manifest with lists so long, of which so many bytes were written
abbrev pub manifest_by : Manifest → ℕ → ℕ → Said ℕ → ManifestTold
manifest_by m i e (accepted n) =
    record {
      number = 0;
      place = 0;
      packaged = is_some m.package;
      start = (unwrap_or m.package no_part).from;
      size = (unwrap_or m.package no_part).len;
      worlds = m.worlds;
      references = m.references;
      imported = i;
      exported = e;
      bytes = n;
    }
manifest_by m i e (refused n p) = no_manifest n p

abbrev pub manifest_told : Said ManifestListing → ManifestTold
manifest_told (accepted l) = manifest_by l.manifest (length l.imported) (length l.exported) (accepted (length (manifest_bytes l)))
manifest_told (refused n p) = no_manifest n p

-- of tables 5 and 6 as they lie, with the cells of their rows: the paths, in lists at the limit
unfoldable pub paths_listed : List ℕ → Manifest → List ℕ → List ℕ → List ℕ → List ℕ → Said ManifestListing
paths_listed s m table5 table6 worlds references =
    follow (paths_of false s table5 m.worlds table6 m.references (limit 15)) (λ i.
    follow (paths_of true s table5 m.worlds table6 m.references (limit 15)) (λ e.
    accepted (record { manifest = m; worlds = worlds; references = references; imported = i; exported = e })))

-- tables at the limits
abbrev pub manifest_limits : ManifestSizes
manifest_limits = record { worlds = full_cells 5; references = full_cells 6 }

unfoldable pub manifest_listed : List ℕ → Said ManifestListing
manifest_listed s =
    follow (manifest_at s manifest_limits) (λ t.
    paths_listed s (manifest_of t) (laid (full_cells 5) (cells world_cells t.worlds))
    (laid (full_cells 6) (cells reference_cells t.references))
    (cells world_cells t.worlds) (cells reference_cells t.references))

-- ---- for the code
-- the counts are of rows that lie in the tables, which are at the limits
pub record ManifestCounted (m : Manifest) (worlds references : List ℕ) : Type 0 where
  pub worlds-in : m.worlds * width 5 ≤ length worlds
  pub references-in : m.references * width 6 ≤ length references
  pub worlds-few : length worlds ≤ full_cells 5
  pub references-few : length references ≤ full_cells 6

pub record Short (imported exported : List ℕ) : Type 0 where
  pub imported-few : length imported ≤ limit 15
  pub exported-few : length exported ≤ limit 15

-- the cells of the counted rows
abbrev pub worlds_in : Manifest → List ℕ → List ℕ
worlds_in m table5 = take (m.worlds * width 5) table5

abbrev pub references_in : Manifest → List ℕ → List ℕ
references_in m table6 = take (m.references * width 6) table6
