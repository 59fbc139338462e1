-- docs/RULES.md, "Tables", sorted lists: which rows are listed, in which order, and what the table lent for them holds.
use Rattle.std.specs.Prelude.{◌≡◌, Bool, true, false, List, ℕ, eqb, length, Option, Some, None}
use Rattle.refusal.specs.Pick.{pick}
use Rattle.text.specs.Order.{cmp_nat, and_then, cmp_bytes}
use Rattle.std.specs.declared.cmp.Ordering.{Ordering}
use Rattle.std.specs.declared.cmp.Ordering.TheVariants.{Equal}
use Rattle.refusal.specs.Said.{Said, accepted, refused, spot}
use Rattle.table.specs.Table.{laid, cell_of, range_of}
use Rattle.table.specs.Entries.{finished, fitting}
use Rattle.sorting.specs.Sort.{sort, selected, up_from}
use Rattle.sorting.specs.declared.Keys.{Keys}

-- by a name alone, that of the first file at cells `from` and `len`; of rows with one name the lowest
abbrev pub by_name : ℕ → ℕ → ℕ → ℕ → ℕ → Keys
by_name width from len mark value =
    record {
      width = width;
      mark = mark;
      value = value;
      major = width;
      file = width;
      from = from;
      len = len;
      minor = width;
      every = false;
    }

-- the bytes of `file` in the range at cells `from` and `len` of row i; a range outside the file is empty
abbrev pub row_name : List ℕ → List ℕ → ℕ → ℕ → ℕ → ℕ → List ℕ
row_name file rows width from len i = range_of file (cell_of rows width i from) (cell_of rows width i len)

module _ (first second rows : List ℕ) (k : Keys) where
  -- the cell of row i in a column; 0 where the row has none
  abbrev pub column_at : ℕ → ℕ → ℕ
  column_at column i = cell_of rows k.width i column

  -- the file that row i names
  unfoldable pub file_of : ℕ → List ℕ
  file_of i = pick (eqb (column_at k.file i) 0) first second

  -- the bytes of row i
  unfoldable pub name_of : ℕ → List ℕ
  name_of i = row_name (file_of i) rows k.width k.from k.len i

  -- by the major cell, then by bytes, then by the minor cell; and by row number where every row is wanted
  unfoldable pub row_order : ℕ → ℕ → Ordering
  row_order i j =
      and_then (cmp_nat (column_at k.major i) (column_at k.major j))
      (and_then (cmp_bytes (name_of i) (name_of j))
      (and_then (cmp_nat (column_at k.minor i) (column_at k.minor j)) (pick k.every (cmp_nat i j) Equal)))

  -- row i is marked
  unfoldable pub row_marked : ℕ → Bool
  row_marked i = eqb (column_at k.mark i) k.value

  -- the marked rows below n in order; of rows that tie the lowest
  unfoldable pub sorted_rows : ℕ → List ℕ
  sorted_rows n = sort row_order (selected row_marked (up_from 0 n))

  -- and those that are not marked
  unfoldable pub unmarked : ℕ → Bool
  unmarked i = pick (row_marked i) false true

  unfoldable pub other_rows : ℕ → List ℕ
  other_rows n = sort row_order (selected unmarked (up_from 0 n))

-- the answer in the paper's words, for a table with the number tn
abbrev pub said_sorted : ℕ → Option ℕ → Said ℕ
said_sorted tn (Some n) = accepted n
said_sorted tn None = refused 13 (spot tn)

-- a list in a table that is lent: all of it, then zeros; or 13, whatever the table's number, and zeros throughout
pub record Sorts (l before after : List ℕ) (r : Option ℕ) : Type 0 where
  pub answer-is : (tn : ℕ) → said_sorted tn r ≡ finished tn (length before) l
  pub table_is : after ≡ laid (length before) (fitting (length before) l)
