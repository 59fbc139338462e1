-- docs/RULES.md, "Tables", sorted lists: what is claimed of the sorted rows, without naming how they are sorted. Assumes nothing.
use Rattle.std.specs.Prelude.{◌≡◌, true, ◌↔◌, List, ℕ, ◌≤◌, ◌<◌}
use Rattle.text.specs.Order.{cmp_bytes}
use Rattle.std.specs.declared.cmp.Ordering.TheVariants.{Equal}
use Rattle.sorting.specs.Sort.{◌∈◌, Ascending}
use Rattle.table.specs.Table.{cell_of}
use Rattle.sorting.specs.Order.{on}
use Rattle.sorting.specs.Keys.{row_name, row_order, row_marked}
use Rattle.sorting.specs.declared.Keys.{Keys}

module _ (first second rows : List ℕ) (k : Keys) (n : ℕ) where
  -- row e is below n and wanted, and no lower wanted row ties with it
  pub record ListedRow (e : ℕ) : Type 0 where
    pub below : e < n
    pub wanted : row_marked first second rows k e ≡ true
    pub lowest : (j : ℕ) → j < n → row_marked first second rows k j ≡ true → row_order first second rows k e j ≡ Equal → e ≤ j

  -- the list has exactly these rows, each before all that follow it
  pub record Ranked (l : List ℕ) : Type 0 where
    pub ascends : Ascending (row_order first second rows k) l
    pub each : (e : ℕ) → e ∈ l ↔ ListedRow e

-- the same of rows listed by name: those whose cell `mark` is `value`, by the bytes at cells `from` and `len`
module _ (text rows : List ℕ) (width from len mark value n : ℕ) where
  -- row e is below n and wanted, and no lower wanted row has its name
  pub record NameListed (e : ℕ) : Type 0 where
    pub below : e < n
    pub wanted : cell_of rows width e mark ≡ value
    pub lowest : (j : ℕ) → j < n → cell_of rows width j mark ≡ value
        → row_name text rows width from len e ≡ row_name text rows width from len j → e ≤ j

  -- the list has exactly these rows, and its names ascend
  pub record NamesRanked (l : List ℕ) : Type 0 where
    pub ascends : Ascending (on cmp_bytes (row_name text rows width from len)) l
    pub each : (e : ℕ) → e ∈ l ↔ NameListed e
