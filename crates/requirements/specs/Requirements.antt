-- docs/RULES.md, "Requirements": which rows ask for a domain, and what table 7, lent as two columns, then holds. Assumes nothing.
use Rattle.std.specs.Prelude.{◌≡◌, List, map, ℕ, min, length}
use Rattle.refusal.specs.Said.{Said, accepted, follow}
use Rattle.table.specs.Table.{laid}
use Rattle.table.specs.Shape.{width, limit}
use Rattle.table.specs.Listing.{fitted, rows_in}
use Rattle.sorting.specs.Sort.{selected, up_from}
use Rattle.sorting.specs.Keys.{row_name}
use Rattle.import_rows.specs.Queries.{asked, kind_is}
use Rattle.domains.specs.Classify.{import_domain}

-- how many requirements two columns of so many cells take
abbrev pub room_of : ℕ → ℕ → ℕ
room_of domains rows = min (min domains rows) (limit 7)

-- ---- a module's: the rows of table 2 that import a function, each with its domain
abbrev pub function_rows : List ℕ → ℕ → List ℕ
function_rows imports n = selected (kind_is imports 0) (up_from 0 n)

-- of row i, by its module name and its field
abbrev pub row_domain : List ℕ → List ℕ → ℕ → ℕ
row_domain file imports i = import_domain (row_name file imports (width 2) 0 1 i) (row_name file imports (width 2) 2 3 i)

unfoldable pub module_rows : List ℕ → List ℕ → ℕ → ℕ → Said (List ℕ)
module_rows file imports n room = asked file imports n (fitted 7 room (function_rows imports n))

-- ---- the promise of a call that fills table 7 with rows x, of which row i asks for domain `of i`:
-- the answer, and every cell of both columns
pub record Requires (of : ℕ → ℕ) (x : Said (List ℕ)) (domains domains1 rows rows1 : List ℕ) (a : Said ℕ) : Type 0 where
  pub answer-is : a ≡ follow x (λ l. accepted (length l))
  pub domains-are : domains1 ≡ laid (length domains) (map of (rows_in x))
  pub rows_are : rows1 ≡ laid (length rows) (rows_in x)
