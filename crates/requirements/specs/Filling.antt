-- For the code: how table 7 is filled, as far as its columns take it: what the functions inside the crate promise. Assumes nothing.
use Rattle.std.specs.Prelude.{◌≡◌, List, map, ℕ, ◌≤◌, length}
use Rattle.table.specs.Table.{laid}

-- a column of n cells, of which l is to be the content: it holds l, and zeros after it, where it takes l
pub record Column (n : ℕ) (l after : List ℕ) : Type 0 where
  pub long : length after ≡ n
  pub holds : length l ≤ n → after ≡ laid n l

pub record Fills (of : ℕ → ℕ) (l domains domains1 rows rows1 : List ℕ) (r : ℕ) : Type 0 where
  pub count : r ≡ length l
  pub in-domains : Column (length domains) (map of l) domains1
  pub in_rows : Column (length rows) l rows1
