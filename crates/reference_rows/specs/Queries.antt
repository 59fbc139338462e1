-- docs/RULES.md, "Tables" and "Manifests": what the rows of tables 5 and 6 answer, handed in with a text and a count for each.
-- Assumes nothing.
use Rattle.std.specs.Prelude.{Bool, true, false, List, ℕ, ltb, length}
use Rattle.refusal.specs.Pick.{both}
use Rattle.refusal.specs.Sizes.{fits_in}
use Rattle.refusal.specs.Said.{Said, follow}
use Rattle.table.specs.Table.{cell_of}
use Rattle.table.specs.Shape.{width, capacity_in, cell_in}
use Rattle.table.specs.Testing.{bad, tested}
use Rattle.table.specs.Listing.{fitted}
use Rattle.sorting.specs.Keys.{by_name, sorted_rows, other_rows}
use Rattle.text.specs.Whole.{whole_text}

-- the range at cells `from` and `len` of row i lies in n bytes
unfoldable pub range_fits : ℕ → List ℕ → ℕ → ℕ → ℕ → ℕ → Bool
range_fits n rows width i from len = fits_in n (cell_of rows width i from) (cell_of rows width i len)

-- table 5: the names lie in the text
abbrev pub world_fits : ℕ → List ℕ → ℕ → Bool
world_fits n worlds i = range_fits n worlds (width 5) i 0 1

unfoldable pub worlds_tested : ℕ → List ℕ → ℕ → Said (Unit {0})
worlds_tested n worlds rows = tested (capacity_in 5 (length worlds)) rows (bad (world_fits n worlds))

-- table 6: row i points to one of so many worlds, and its path and its signature lie in the text
unfoldable pub reference_fits : ℕ → ℕ → List ℕ → ℕ → Bool
reference_fits n worlds references i =
    both (ltb (cell_in 6 references i 0) worlds) (both (range_fits n references (width 6) i 2 3) (range_fits n references (width 6) i 5 6))

unfoldable pub references_tested : ℕ → ℕ → List ℕ → ℕ → Said (Unit {0})
references_tested n worlds references rows = tested (capacity_in 6 (length references)) rows (bad (reference_fits n worlds references))

-- the text as a whole, then table 5, then table 6
unfoldable pub manifest_tested : List ℕ → List ℕ → ℕ → List ℕ → ℕ → Said (Unit {0})
manifest_tested s worlds n5 references n6 =
    follow (whole_text s) (λ u.
    follow (worlds_tested (length s) worlds n5) (λ v.
    references_tested (length s) n5 references n6))

-- of each path the lowest row, by bytes: of the imports, whose direction is 0, or of the exports, whose direction is not
unfoldable pub path_rows : Bool → List ℕ → List ℕ → ℕ → List ℕ
path_rows false s references n = sorted_rows s s references (by_name (width 6) 2 3 1 0) n
path_rows true s references n = other_rows s s references (by_name (width 6) 2 3 1 0) n

unfoldable pub paths_of : Bool → List ℕ → List ℕ → ℕ → List ℕ → ℕ → ℕ → Said (List ℕ)
paths_of export s worlds n5 references n6 room =
    follow (manifest_tested s worlds n5 references n6) (λ u. fitted 15 room (path_rows export s references n6))
