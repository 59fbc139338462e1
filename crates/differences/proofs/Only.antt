-- The two lists of a comparison are known by their entries: no other ascending list has these. Assumes nothing.
use mathlib.Core.Path.{◌≡◌}
use mathlib.Core.Logic.{◌↔◌}
use mathlib.Core.List.{List}
use Rattle.std.specs.declared.cmp.Ordering.{Ordering}
use Rattle.sorting.specs.Order.{Lawful}
use Rattle.sorting.specs.Sort.{◌∈◌, sort, Ascending, First}
use Rattle.sorting.proofs.Orders.{lawful-nat, lawful-bytes, lawful-on, lawful_then}
use Rattle.sorting.proofs.Sorts.{sort-ascends, ascending-unique}
use Rattle.sorting.proofs.Firsts.{sort-first}
use Rattle.differences.specs.View.{ExportKey, Need, View}
use Rattle.differences.specs.Differences.{kind_slug, cmp_export, cmp_need, Entry, changes, export_order, export_diff, need_order, need_diff}

-- ---- the orders are lawful
pub lawful-export : Lawful cmp_export
unfolding cmp_export
lawful-export = lawful_then (lawful-on lawful-bytes (λ e. e.name)) (lawful-on lawful-bytes (λ e. kind_slug e.kind))

pub lawful-exports : Lawful export_order
unfolding export_order
lawful-exports = lawful_then (lawful-on lawful-export (λ e. e.row.key)) (lawful-on lawful-nat (λ e. e.row.at))

pub lawful-need : Lawful cmp_need
unfolding cmp_need
lawful-need = lawful_then (lawful-on lawful-nat (λ n. n.domain)) (lawful-on lawful-bytes (λ n. n.source))

pub lawful-needs : Lawful need_order
unfolding need_order
lawful-needs = lawful-on lawful-need (λ e. e.row.key)

-- ---- a list that ascends, and whose entries are those that no earlier one ties with
sorted-only : {A : Type 0} (cmp : A → A → Ordering) → Lawful cmp → (l m : List A) → Ascending cmp m
    → ((e : A) → e ∈ m ↔ First cmp e l) → m ≡ sort cmp l
sorted-only cmp laws l m a each =
    ascending-unique cmp laws m (sort cmp l) a (sort-ascends cmp laws l)
    (λ e i. (sort-first cmp laws e l).1 ((each e).0 i)) (λ e i. (each e).1 ((sort-first cmp laws e l).0 i))

module _ (b c : View) where
  -- the list of exports: by name, kind and row, strictly, and its entries are the rows that the other module lacks
  pub exports-only : (l : List (Entry ExportKey)) → Ascending export_order l
      → ((e : Entry ExportKey) → e ∈ l ↔ First export_order e (changes cmp_export b.exports c.exports)) → l ≡ export_diff b c
  unfolding export_diff
  exports-only l a each = sorted-only export_order lawful-exports (changes cmp_export b.exports c.exports) l a each

  -- the list of pairs: by domain and source, strictly, and its entries are the lowest rows of pairs that the other module lacks
  pub needs-only : (l : List (Entry Need)) → Ascending need_order l
      → ((e : Entry Need) → e ∈ l ↔ First need_order e (changes cmp_need b.needs c.needs)) → l ≡ need_diff b c
  unfolding need_diff
  needs-only l a each = sorted-only need_order lawful-needs (changes cmp_need b.needs c.needs) l a each
