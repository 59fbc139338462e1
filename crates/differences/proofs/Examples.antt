-- The lists of small modules, computed. Assumes nothing.
use mathlib.Core.Path.{◌≡◌, refl}
use mathlib.Core.Bool.{false}
use mathlib.Core.List.{[], ◌∷◌, map}
use Prim.Native.Nat.{ℕ}
use Rattle.text.specs.Order.{cmp_bytes}
use Rattle.table.specs.Table.{cell_of, range_of}
use Rattle.text.specs.Find.{begins, same}
use Rattle.kinds.specs.Kinds.{kind_of}
use Rattle.import_rows.specs.Queries.{kind_is}
use Rattle.domains.specs.Classify.{import_domain}
use Rattle.differences.specs.declared.Change.{Change}
use Rattle.differences.specs.declared.Change.TheVariants.{Removed, Added}
use Rattle.differences.specs.View.{View, export_key_at, need_at, view_of}
use Rattle.differences.specs.Differences.{Entry, cmp_export, cmp_need, has_key, export_order, export_diff, need_order, need_diff}
use Rattle.differences.specs.Differences.{has_no, compatible}

-- `ab`; exports b func, a table, b func again, a global; a memory import, then two functions of module `a` and one of `b`
old : View
old =
    view_of (97 ∷ 98 ∷ [])
    (0 ∷ 1 ∷ 0 ∷ 0 ∷ 2 ∷ 0 ∷ 0 ∷ 0 ∷ 1 ∷ 0 ∷ 0 ∷ 12
    ∷ 0 ∷ 1 ∷ 0 ∷ 1 ∷ 0 ∷ 3 ∷ 0 ∷ 0 ∷ 0 ∷ 0 ∷ 0 ∷ 1
    ∷ 0 ∷ 1 ∷ 1 ∷ 1 ∷ 0 ∷ 0 ∷ 0 ∷ 0 ∷ 0 ∷ 0 ∷ 0 ∷ 1
    ∷ 1 ∷ 1 ∷ 0 ∷ 0 ∷ 0 ∷ 3 ∷ 0 ∷ 0 ∷ 0 ∷ 0 ∷ 0 ∷ 1 ∷ []) 4
    (1 ∷ 1 ∷ 0 ∷ 0 ∷ 0 ∷ 1 ∷ 1 ∷ 0 ∷ 1 ∷ 1 ∷ 0 ∷ 0 ∷ 0 ∷ 1 ∷ 3 ∷ 0 ∷ []) 4

-- `a`; exports a memory and a of kinds 10 and 9; one function of an empty module name
new : View
new = view_of (97 ∷ []) (0 ∷ 0 ∷ 0 ∷ 1 ∷ 0 ∷ 0 ∷ 0 ∷ 0 ∷ 0 ∷ 0 ∷ 0 ∷ 1 ∷ []) 1 (0 ∷ 1 ∷ 2 ∷ 0 ∷ 0 ∷ 1 ∷ 10 ∷ 0 ∷ 0 ∷ 1 ∷ 9 ∷ 0 ∷ []) 3

brief : {K : Type 0} → Entry K → Change × ℕ
brief e = (e.change, e.row.at)

-- by name, then slug (global, memory, other by byte, table), then row; each repeat
exports-between : map brief (export_diff old new)
    ≡ (Removed, 3) ∷ (Added, 0) ∷ (Added, 2) ∷ (Added, 1) ∷ (Removed, 1) ∷ (Removed, 0) ∷ (Removed, 2) ∷ []
unfolding brief old new export_diff export_order cmp_export has_key export_key_at cell_of range_of cmp_bytes kind_of
exports-between = refl

-- each pair once, by its lowest function import
needs-between : map brief (need_diff old new) ≡ (Added, 0) ∷ (Removed, 1) ∷ (Removed, 3) ∷ []
unfolding brief old new need_diff need_order cmp_need has_key need_at cell_of range_of cmp_bytes kind_is import_domain begins same
needs-between = refl

not-compatible : compatible old new ≡ false
unfolding compatible has_no old new export_diff export_order cmp_export has_key export_key_at cell_of range_of cmp_bytes kind_of
not-compatible = refl

-- a module against itself
no-export : export_diff old old ≡ []
unfolding old export_diff export_order cmp_export has_key export_key_at cell_of range_of cmp_bytes kind_of
no-export = refl

no-need : need_diff old old ≡ []
unfolding old need_diff need_order cmp_need has_key need_at cell_of range_of cmp_bytes kind_is import_domain begins same
no-need = refl
