-- The two lists of modules as the comparison sees them. Assumes nothing.
use mathlib.Core.Path.{◌≡◌, refl, sym, ap}
use mathlib.Core.Logic.{◌↔◌}
use mathlib.Core.Bool.{Bool, true, false, not, ◌&&◌, true≢false}
use mathlib.Core.List.{List, [], ◌∷◌, map}
use Prim.Native.Nat.{◌+◌, ◌≤◌}
use native.Mathlib.Omega.{arith}
use lib.ListN.{length, length-append, length-map}
use Rattle.refusal.specs.Pick.{pick}
use Rattle.std.specs.declared.cmp.Ordering.{Ordering}
use Rattle.std.specs.declared.cmp.Ordering.TheVariants.{Equal}
use Rattle.sorting.specs.Sort.{◌∈◌, Ascending, sort, selected}
use Rattle.sorting.proofs.Sorts.{sort-only, sort-all, sort-ascends, sort-length}
use Rattle.differences.specs.declared.Change.TheVariants.{Removed, Added}
use Rattle.differences.specs.View.{ExportKey, Need, Row, View}
use Rattle.differences.specs.Differences.{Entry, entry, cmp_export, cmp_need, export_order, need_order, has_key, without, changes}
use Rattle.differences.specs.Differences.{export_diff, need_diff, has_no}
use Rattle.differences.specs.Compared.{lists, verdict_on}
use Rattle.covering.specs.Replacing.{keys, Reports, IsChange, reversed}
use Rattle.covering.proofs.Differ.{changes-mem, mem-changes, one-kind, exchange, removed, added, none-removed, none-added}
use Rattle.covering.proofs.Orders.{of-exports, of-needs, tie-row}

and_both : (x y : Bool) → ((x && y) ≡ true) ↔ ((x ≡ true) × (y ≡ true))
and_both true y = ((λ h. (refl, h)), λ h. h.1)
and_both false y = ((λ h. absurd (true≢false (sym h))), λ h. absurd (true≢false (sym h.0)))

-- ---- how long a list can be
pub keep-length : {A : Type 0} (p : A → Bool) (l : List A) → length (selected p l) ≤ length l
keep-length p [] = omega arith
keep-length p (x ∷ l) = by (p x) (keep-length p l)
  where
    by : (t : Bool) → length (selected p l) ≤ length l → length (pick t (x ∷ selected p l) (selected p l)) ≤ length (x ∷ l)
    by true h = omega arith
    by false h = omega arith

module _ {K : Type 0} (cmp : K → K → Ordering) (fine : Entry K → Entry K → Ordering) (b c : List (Row K)) where
  pub few-changes : length (sort fine (changes cmp b c)) ≤ length b + length c
  few-changes =
      let h = keep-length (λ (r : Row K). not (has_key cmp r.key c)) b in
      let k = keep-length (λ (r : Row K). not (has_key cmp r.key b)) c in
      let l = sort-length fine (changes cmp b c) in
      omega (
        arith,
        length-append (map (entry Removed) (without cmp b c)) (map (entry Added) (without cmp c b)),
        length-map (without cmp b c) (entry Removed),
        length-map (without cmp c b) (entry Added),
      )

module _ (b c : View) where
  -- compatible says that nothing was removed and nothing needed was added
  pub says : ((verdict_on (lists b c)).compatible ≡ true)
      ↔ (((e : ExportKey) → e ∈ keys b.exports → e ∈ keys c.exports) × ((n : Need) → n ∈ keys c.needs → n ∈ keys b.needs))
  unfolding verdict_on export_diff need_diff
  says =
      let s = and_both (has_no Removed (export_diff b c)) (has_no Added (need_diff b c)) in
      let x = none-removed of-exports b.exports c.exports in
      let n = none-added of-needs b.needs c.needs in (
        (λ h. let t = s.0 h in (x.0 t.0, n.0 t.1)),
        λ h. s.1 (x.1 h.0, n.1 h.1),
      )

  pub exports-exchange : export_diff c b ≡ map reversed (export_diff b c)
  unfolding export_diff
  exports-exchange = exchange of-exports b.exports c.exports

  pub needs-exchange : need_diff c b ≡ map reversed (need_diff b c)
  unfolding need_diff
  needs-exchange = exchange of-needs b.needs c.needs

  pub exports-ascend : Ascending export_order (export_diff b c)
  unfolding export_diff
  exports-ascend = sort-ascends export_order of-exports.flaws (changes cmp_export b.exports c.exports)

  pub needs-ascend : Ascending need_order (need_diff b c)
  unfolding need_diff
  needs-ascend = sort-ascends need_order of-needs.flaws (changes cmp_need b.needs c.needs)

  -- each row of exports that the other lacks
  pub exports-each : (e : Entry ExportKey) → e ∈ export_diff b c ↔ IsChange e b.exports c.exports
  unfolding export_diff
  exports-each e = (
    (λ m. changes-mem of-exports e b.exports c.exports (sort-only export_order of-exports.flaws e all m)),
    λ u. sort-all export_order of-exports.flaws all same e (mem-changes of-exports e b.exports c.exports u),
  )
    where
      all : List (Entry ExportKey)
      all = changes cmp_export b.exports c.exports

      same : (x y : Entry ExportKey) → x ∈ all → y ∈ all → export_order x y ≡ Equal → x ≡ y
      same x y i j h =
          let p : x.row ≡ y.row = tie-row x y h in
          let q : x.change ≡ y.change =
          one-kind of-exports b.exports c.exports x y
          (changes-mem of-exports x b.exports c.exports i)
          (changes-mem of-exports y b.exports c.exports j)
          (ap (λ (r : Row ExportKey). r.key) p) in
          λ t. record { change = q t; row = p t }

  pub exports-removed : (e : ExportKey) → Reports Removed e (export_diff b c) ↔ ((e ∈ keys b.exports) × (e ∈ keys c.exports → ⊥))
  unfolding export_diff
  exports-removed e = removed of-exports b.exports c.exports e

  pub exports-added : (e : ExportKey) → Reports Added e (export_diff b c) ↔ ((e ∈ keys c.exports) × (e ∈ keys b.exports → ⊥))
  unfolding export_diff
  exports-added e = added of-exports b.exports c.exports e

  pub needs-removed : (n : Need) → Reports Removed n (need_diff b c) ↔ ((n ∈ keys b.needs) × (n ∈ keys c.needs → ⊥))
  unfolding need_diff
  needs-removed n = removed of-needs b.needs c.needs n

  pub needs-added : (n : Need) → Reports Added n (need_diff b c) ↔ ((n ∈ keys c.needs) × (n ∈ keys b.needs → ⊥))
  unfolding need_diff
  needs-added n = added of-needs b.needs c.needs n
