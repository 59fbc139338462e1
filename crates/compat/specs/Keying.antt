-- For the code: how it makes the two lists, the rows of both modules as rows of one table of keys. Assumes nothing.
use Rattle.std.specs.Prelude.{Bool, true, false, List, [], ◌∷◌, ℕ, eqb}
use Rattle.refusal.specs.Pick.{pick}
use Rattle.table.specs.Table.{range_of, laid, cells, rows_of}
use Rattle.table.specs.Shape.{width, limit, cell_in}
use Rattle.sorting.specs.Keys.{row_name}
use Rattle.import_rows.specs.Queries.{kind_is}
use Rattle.domains.specs.Classify.{import_domain}
use Rattle.differences.specs.Compared.{Given}
use Rattle.differences.specs.Rank.{rank_of}
use Rattle.differences.specs.Numbers.{sided}
use Rattle.compat.specs.declared.keys.Key.{Key}
use Rattle.compat.specs.declared.keys.Rows.{Rows}
use Rattle.compat.specs.declared.keys.Rows.TheVariants.{Exports, Needs}

-- a row for each row of both modules
abbrev pub key_limit : ℕ
key_limit = limit 8

unfoldable pub key_cells : Key → List ℕ
key_cells k = k.file ∷ k.from ∷ k.len ∷ k.major ∷ k.minor ∷ pick k.wanted 1 0 ∷ []

abbrev pub key_of : ℕ → ℕ → ℕ → ℕ → ℕ → Bool → Key
key_of file from len major minor wanted =
    record { file = file; from = from; len = len; major = major; minor = minor; wanted = wanted }

unfoldable pub key_name : List ℕ → List ℕ → Key → List ℕ
key_name first second k = range_of (pick (eqb k.file 0) first second) k.from k.len

-- an export by its name, then its kind's rank
unfoldable pub export_key : ℕ → List ℕ → ℕ → Key
export_key side exports i = key_of side (cell_in 3 exports i 0) (cell_in 3 exports i 1) 0 (rank_of (cell_in 3 exports i 2)) true

-- a function import by its domain, then its module's name
unfoldable pub need_key : ℕ → List ℕ → List ℕ → ℕ → Key
need_key side file imports i =
    key_of side (cell_in 2 imports i 0) (cell_in 2 imports i 1)
    (import_domain (row_name file imports (width 2) 0 1 i) (row_name file imports (width 2) 2 3 i)) 0 (kind_is imports 0 i)

-- the rows of both
abbrev pub export_keys : List ℕ → ℕ → List ℕ → ℕ → Key
export_keys be nb ce = sided nb (export_key 0 be) (export_key 1 ce)

abbrev pub need_keys : List ℕ → List ℕ → ℕ → List ℕ → List ℕ → ℕ → Key
need_keys b bi nb c ci = sided nb (need_key 0 b bi) (need_key 1 c ci)

-- of either
abbrev pub row_key : Rows → ℕ → Given → ℕ → Key
row_key Exports side g = export_key side g.exports
row_key Needs side g = need_key side g.file g.imports

abbrev pub row_count : Rows → Given → ℕ
row_count Exports g = g.export_count
row_count Needs g = g.import_count

abbrev pub keys_of : Rows → Given → Given → ℕ → Key
keys_of rows b c = sided (row_count rows b) (row_key rows 0 b) (row_key rows 1 c)

-- every repeat of an export, of one pair the lowest row alone
abbrev pub every_of : Rows → Bool
every_of Exports = true
every_of Needs = false

-- a table of n keys
abbrev pub table_of : ℕ → (ℕ → Key) → ℕ → List ℕ
table_of size g n = laid size (cells key_cells (rows_of g n))
