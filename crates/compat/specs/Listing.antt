-- For the code: the lists by the numbers of their rows, as it makes them. Assumes nothing.
use Rattle.std.specs.Prelude.{◌≡◌, Bool, List, [], ◌∷◌, map, ℕ, ◌≤◌, length, take}
use Rattle.std.specs.List.{list_any}
use Rattle.refusal.specs.Said.{accepted}
use Rattle.sorting.specs.Sort.{sort}
use Rattle.differences.specs.declared.Change.{Change}
use Rattle.differences.specs.declared.Change.TheVariants.{Removed, Added}
use Rattle.differences.specs.View.{ExportKey, Need, row, export_key_at, need_at, export_rows, need_rows}
use Rattle.differences.specs.Differences.{Entry, entry, changes, is_change, cmp_export, cmp_need, export_order, need_order}
use Rattle.differences.specs.Compared.{Given, exports_tested, change_number, need_diff_cells}
use Rattle.differences.specs.Numbers.{sided}
use Rattle.compat.specs.declared.keys.Rows.{Rows}
use Rattle.compat.specs.declared.keys.Rows.TheVariants.{Exports, Needs}
use Rattle.compat.specs.declared.listing.Place.{Place}

-- exports: those of the baseline are numbered first
unfoldable pub exports_between : List ℕ → List ℕ → ℕ → List ℕ → List ℕ → ℕ → List (Entry ExportKey)
exports_between b be nb c ce nc = sort export_order (changes cmp_export (export_rows b be nb) (export_rows c ce nc))

abbrev pub export_numbered : List ℕ → List ℕ → ℕ → List ℕ → List ℕ → ℕ → Entry ExportKey
export_numbered b be nb c ce = sided nb (λ i. entry Removed (row (export_key_at b be) i)) (λ i. entry Added (row (export_key_at c ce) i))

-- capability pairs
unfoldable pub needs_between : List ℕ → List ℕ → ℕ → List ℕ → List ℕ → ℕ → List (Entry Need)
needs_between b bi nb c ci nc = sort need_order (changes cmp_need (need_rows b bi nb) (need_rows c ci nc))

abbrev pub need_numbered : List ℕ → List ℕ → ℕ → List ℕ → List ℕ → ℕ → Entry Need
need_numbered b bi nb c ci = sided nb (λ i. entry Removed (row (need_at b bi) i)) (λ i. entry Added (row (need_at c ci) i))

-- the first r cells are the numbers of a list's entries
pub record Numbers {K : Type 0} (at : ℕ → Entry K) (d : List (Entry K)) (table : List ℕ) (r : ℕ) : Type 0 where
  pub within : r ≤ length table
  pub these : map at (take r table) ≡ d

-- of either list
abbrev pub Listed : Rows → Given → Given → List ℕ → ℕ → Type 0
Listed Exports b c =
    Numbers (export_numbered b.file b.exports b.export_count c.file c.exports)
    (exports_between b.file b.exports b.export_count c.file c.exports c.export_count)
Listed Needs b c =
    Numbers (need_numbered b.file b.imports b.import_count c.file c.imports)
    (needs_between b.file b.imports b.import_count c.file c.imports c.import_count)

-- the rows of exports have passed; those of imports may be any
abbrev pub Passed : Rows → Given → Type 0
Passed Exports g = exports_tested (length g.file) g.exports g.export_count ≡ accepted tt
Passed Needs g = Unit {0}

-- ---- a number's module and row
unfoldable pub place_at : ℕ → ℕ → Place
place_at nb = sided nb (λ i. record { change = Removed; row = i }) (λ i. record { change = Added; row = i })

abbrev pub place_cells : ℕ → ℕ → List ℕ
place_cells nb i = change_number (place_at nb i).change ∷ (place_at nb i).row ∷ []

-- a row of table 9
abbrev pub need_cells_at : Given → Given → ℕ → List ℕ
need_cells_at b c i = need_diff_cells (need_numbered b.file b.imports b.import_count c.file c.imports i)

-- one of the numbers is of this change
unfoldable pub has_change : ℕ → Change → List ℕ → Bool
has_change nb change l = list_any (λ i. is_change change (place_at nb i).change) l
