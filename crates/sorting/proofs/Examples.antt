-- The definitions on small tables, computed. Assumes nothing.
use mathlib.Core.Path.{◌≡◌, refl}
use mathlib.Core.Bool.{true}
use mathlib.Core.List.{List, [], ◌∷◌}
use Prim.Native.Nat.{ℕ}
use Rattle.text.specs.Order.{cmp_bytes}
use Rattle.table.specs.Table.{cell_of, range_of}
use Rattle.sorting.specs.Keys.{by_name, file_of, name_of, row_order, row_marked, sorted_rows}
use Rattle.sorting.specs.declared.Keys.{Keys}

-- the bytes `babba`, and rows of three cells: a range and a mark
bytes : List ℕ
bytes = 98 ∷ 97 ∷ 98 ∷ 98 ∷ 97 ∷ []

-- `b`, `a`, `bb`, `a` marked, a range outside, `b`
rows : List ℕ
rows = 0 ∷ 1 ∷ 0 ∷ 1 ∷ 1 ∷ 0 ∷ 2 ∷ 2 ∷ 0 ∷ 4 ∷ 1 ∷ 1 ∷ 9 ∷ 1 ∷ 0 ∷ 0 ∷ 1 ∷ 0 ∷ []

-- all rows by name: the empty name of the range outside, then a, b, bb; the second `a` and the second `b` are repeats
all-names : sorted_rows bytes bytes rows (by_name 3 0 1 3 0) 6 ≡ 4 ∷ 1 ∷ 0 ∷ 2 ∷ []
unfolding bytes rows sorted_rows row_order row_marked name_of file_of cell_of range_of cmp_bytes
all-names = refl

-- only the marked row
marked-names : sorted_rows bytes bytes rows (by_name 3 0 1 2 1) 6 ≡ 3 ∷ []
unfolding bytes rows sorted_rows row_order row_marked name_of file_of cell_of range_of cmp_bytes
marked-names = refl

-- by the mark first, and with repeats in row order
keys : Keys
keys = record { width = 3; mark = 3; value = 0; major = 2; file = 3; from = 0; len = 1; minor = 3; every = true }

every-row : sorted_rows bytes bytes rows keys 6 ≡ 4 ∷ 1 ∷ 0 ∷ 5 ∷ 2 ∷ 3 ∷ []
unfolding bytes rows keys sorted_rows row_order row_marked name_of file_of cell_of range_of cmp_bytes
every-row = refl
