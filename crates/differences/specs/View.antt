-- docs/RULES.md, "Differences": a module, as far as the comparison sees it: its exports, and what its function imports need. Assumes
-- nothing.
use Rattle.std.specs.Prelude.{List, map, ℕ}
use Rattle.table.specs.Shape.{width, cell_in}
use Rattle.sorting.specs.Sort.{selected, up_from}
use Rattle.sorting.specs.Keys.{row_name}
use Rattle.import_rows.specs.Queries.{kind_is}
use Rattle.domains.specs.Classify.{import_domain}

pub record ExportKey : Type 0 where
  pub name : List ℕ
  pub kind : ℕ

-- a capability pair: a domain, and the module name of an import
pub record Need : Type 0 where
  pub domain : ℕ
  pub source : List ℕ

-- a row of a table, by its number, and what it holds
pub record Row (K : Type 0) : Type 0 where
  pub at : ℕ
  pub key : K

pub record View : Type 0 where
  pub exports : List (Row ExportKey)
  pub needs : List (Row Need)

abbrev pub row : {K : Type 0} → (ℕ → K) → ℕ → Row K
row f i = record { at = i; key = f i }

-- row i of table 3
unfoldable pub export_key_at : List ℕ → List ℕ → ℕ → ExportKey
export_key_at file exports i = record { name = row_name file exports (width 3) 0 1 i; kind = cell_in 3 exports i 2 }

-- row i of table 2, a function import
unfoldable pub need_at : List ℕ → List ℕ → ℕ → Need
need_at file imports i =
    record {
      domain = import_domain (row_name file imports (width 2) 0 1 i) (row_name file imports (width 2) 2 3 i);
      source = row_name file imports (width 2) 0 1 i;
    }

abbrev pub export_rows : List ℕ → List ℕ → ℕ → List (Row ExportKey)
export_rows file exports n = map (row (export_key_at file exports)) (up_from 0 n)

-- only function imports count
abbrev pub need_rows : List ℕ → List ℕ → ℕ → List (Row Need)
need_rows file imports n = map (row (need_at file imports)) (selected (kind_is imports 0) (up_from 0 n))

-- a file with m rows of table 2 and n rows of table 3
abbrev pub view_of : List ℕ → List ℕ → ℕ → List ℕ → ℕ → View
view_of file imports m exports n = record { exports = export_rows file exports n; needs = need_rows file imports m }
