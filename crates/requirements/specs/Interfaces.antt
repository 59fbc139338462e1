-- docs/RULES.md, "Requirements": which paths of a manifest ask for a domain. Assumes nothing.
use Rattle.std.specs.Prelude.{false, List, ℕ}
use Rattle.refusal.specs.Said.{Said, follow}
use Rattle.table.specs.Shape.{width, cell_in}
use Rattle.table.specs.Listing.{fitted}
use Rattle.sorting.specs.Keys.{row_name}
use Rattle.domains.specs.Classify.{path_domain}
use Rattle.reference_rows.specs.Queries.{manifest_tested, path_rows}

-- of row i of table 6, by its path
abbrev pub reference_domain : List ℕ → List ℕ → ℕ → ℕ
reference_domain s references i = path_domain (row_name s references (width 6) 2 3 i)

-- 14, 4 and 15; then of each path that is imported the lowest row, by bytes
unfoldable pub manifest_rows : List ℕ → List ℕ → ℕ → List ℕ → ℕ → ℕ → Said (List ℕ)
manifest_rows s worlds n5 references n6 room =
    follow (manifest_tested s worlds n5 references n6) (λ u. fitted 7 room (path_rows false s references n6))

-- ---- for the code: of the row whose number is the i-th of a column
abbrev pub domain_of_cell : List ℕ → List ℕ → List ℕ → ℕ → ℕ
domain_of_cell s references rows i = reference_domain s references (cell_in 7 rows i 0)
