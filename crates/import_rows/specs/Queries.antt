-- docs/RULES.md, "Tables" and "The module": what the rows of table 2 answer, handed in with a count. Assumes nothing.
use Rattle.std.specs.Prelude.{Bool, true, List, ℕ, ◌+◌, ◌-◌, ◌*◌, ◌/◌, ◌%◌, ◌^◌, leb, ltb, eqb, length}
use Rattle.refusal.specs.Pick.{pick, both}
use Rattle.refusal.specs.Sizes.{file_limit, fits_in}
use Rattle.refusal.specs.Said.{Said, accepted, refused, follow, spot}
use Rattle.table.specs.Shape.{width, capacity_in, cell_in}
use Rattle.table.specs.Testing.{bad, tested, count_from}
use Rattle.table.specs.Listing.{fitted}
use Rattle.sorting.specs.Keys.{by_name, sorted_rows}

-- the number of row i in a column
abbrev pub import_cell : List ℕ → ℕ → ℕ → ℕ
import_cell imports i column = cell_in 2 imports i column

-- the mark of an import of this kind and flag: bit c - 5 is set where the number in column c (5 to 10) is there. A function has its
-- type's index (5); a table its element type, flag and least (6, 7, 8); a memory its flag and least; both their most (9) where bit 0 of
-- the flag is set; a global its type and mutability (6, 10)
unfoldable pub given_of : ℕ → ℕ → ℕ
given_of kind flag =
    pick (eqb kind 0) 1
    (pick (eqb kind 1) (14 + flag % 2 * 16)
    (pick (eqb kind 2) (12 + flag % 2 * 16)
    (pick (eqb kind 3) 34 0)))

-- the number in a column is there, by this mark
abbrev pub number_there : ℕ → ℕ → Bool
number_there given column = eqb (given / 2 ^ (column - 5) % 2) 1

-- the number in a column of row i is there, or 0
unfoldable pub number_fits : ℕ → List ℕ → ℕ → ℕ → Bool
number_fits given imports i column = pick (number_there given column) true (eqb (import_cell imports i column) 0)

-- row i has this mark, and none of its six numbers, from column 5 on, does not fit it
unfoldable pub marked : ℕ → List ℕ → ℕ → Bool
marked given imports i = both (eqb (import_cell imports i 11) given) (eqb (count_from (bad (number_fits given imports i)) 5 6) 0)

-- the mark of row i is that of its kind and flag
unfoldable pub desc_fits : List ℕ → ℕ → Bool
desc_fits imports i = marked (given_of (import_cell imports i 4) (import_cell imports i 7)) imports i

-- the kind of row i is a byte, and its descriptor fits
unfoldable pub kind_fits : List ℕ → ℕ → Bool
kind_fits imports i = both (leb (import_cell imports i 4) 255) (desc_fits imports i)

-- both names of row i lie in a file of n bytes besides
unfoldable pub import_fits : ℕ → List ℕ → ℕ → Bool
import_fits n imports i =
    both (fits_in n (import_cell imports i 0) (import_cell imports i 1))
    (both (fits_in n (import_cell imports i 2) (import_cell imports i 3)) (kind_fits imports i))

unfoldable pub imports_tested : ℕ → List ℕ → ℕ → Said (Unit {0})
imports_tested n imports rows = tested (capacity_in 2 (length imports)) rows (bad (import_fits n imports))

-- without a file there is no range to test
unfoldable pub kinds_tested : List ℕ → ℕ → Said (Unit {0})
kinds_tested imports rows = tested (capacity_in 2 (length imports)) rows (bad (kind_fits imports))

unfoldable pub kind_is : List ℕ → ℕ → ℕ → Bool
kind_is imports kind i = eqb (import_cell imports i 4) kind

-- how many imports are of a kind
unfoldable pub imported_of : List ℕ → ℕ → ℕ → Said ℕ
imported_of imports n kind = follow (kinds_tested imports n) (λ u. accepted (count_from (kind_is imports kind) 0 n))

-- 14 for the file, then 15 for table 2, then what the rows answer
unfoldable pub asked : {X : Type 0} → List ℕ → List ℕ → ℕ → Said X → Said X
asked file imports n then =
    pick (ltb file_limit (length file)) (refused 14 (spot 0)) (follow (imports_tested (length file) imports n) (λ u. then))

-- of each module name, of whatever kind of import, the lowest row, by bytes
unfoldable pub namespaces_of : List ℕ → List ℕ → ℕ → ℕ → Said (List ℕ)
namespaces_of file imports n room =
    asked file imports n (fitted 15 room (sorted_rows file file imports (by_name (width 2) 0 1 (width 2) 0) n))
