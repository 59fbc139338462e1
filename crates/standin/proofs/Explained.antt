-- The reasons of lists that were accepted are never refused. Assumes nothing.
use mathlib.Core.Path.{◌≡◌, refl, sym, ap}
use mathlib.Core.Logic.{inl, inr}
use mathlib.Core.Bool.{Bool, true, false}
use mathlib.Core.List.{List, [], map}
use Prim.Native.Nat.{ℕ, ◌≤◌, ◌<◌}
use native.Mathlib.Omega.{arith}
use lib.Dec.{leb, ltb, eqb}
use lib.ListN.{length, get_or}
use borrow.Author.Tests.{le-leb, lt-ltb, leb-true}
use Rattle.refusal.specs.Pick.{pick}
use Rattle.refusal.specs.Sizes.{file_limit}
use Rattle.refusal.specs.Said.{Said, accepted, refused, follow, spot}
use Rattle.refusal.proofs.Following.{never, one_value, followed, follow-goes}
use Rattle.table.specs.Table.{laid, cells, capacity_of}
use Rattle.table.specs.Shape.{width, limit, full_cells, cell_in}
use Rattle.table.specs.Entries.{finished}
use Rattle.table.proofs.Laws.{cell-laid}
use Rattle.table.specs.Testing.{bad}
use Rattle.sorting.specs.Sort.{◌∈◌, selected, up_from}
use Rattle.sorting.proofs.Sorts.{sort-only, get_d-mem}
use Rattle.sorting.proofs.Ranking.{keep-to, up-to}
use Rattle.import_rows.specs.Queries.{kind_is}
use Rattle.differences.specs.declared.Change.TheVariants.{Removed}
use Rattle.differences.specs.View.{ExportKey, Need, Row, row, export_key_at, need_at}
use Rattle.differences.specs.Differences.{Entry, entry, cmp_need, need_order, changes, export_diff, need_diff}
use Rattle.differences.specs.Compared.{Given, viewed, tables_tested, both_tested, Lists, lists, roomed, compared}
use Rattle.differences.specs.Compared.{change_number, export_diff_cells, need_diff_cells}
use Rattle.reasons.specs.Reasons.{export_diff_fits, need_diff_fits, export_diffs_tested, need_diffs_tested}
use Rattle.reasons.specs.Reasons.{diffs_tested, reasons_tested}
use Rattle.listed.specs.Comparisons.{tabled, explained}
use Rattle.covering.specs.Replacing.{IsChange}
use Rattle.standin.specs.Builds.{with_reasons}
use Rattle.covering.proofs.Differ.{map-mem, changes-mem}
use Rattle.covering.proofs.Orders.{of-needs}
use Rattle.covering.proofs.Views.{exports-each}
use Rattle.standin.proofs.Builds.{rows-good}
use Rattle.standin.proofs.Domains.{need-small}

-- ---- what was accepted
finished-few : {R : Type 0} (tn room : ℕ) (rows : List R) {n : ℕ} → finished tn room rows ≡ accepted n → length rows ≤ room
unfolding finished
finished-few tn room rows {n} e = by (leb (length rows) room) refl e
  where
    by : (t : Bool) → leb (length rows) room ≡ t → pick t (accepted (length rows)) (refused 13 (spot tn)) ≡ accepted n → length rows ≤ room
    by true q f = leb-true (length rows) room q
    by false q f = absurd (never f)

-- lists that were accepted are those of two modules that passed, and no longer than there is room for
record Made (b c : Given) (room8 room9 : ℕ) (l : Lists) : Type 0 where
  both : both_tested b c ≡ accepted tt
  same : l ≡ lists (viewed b) (viewed c)
  few8 : length l.exports ≤ room8
  few9 : length l.needs ≤ room9

made : (b c : Given) (room8 room9 : ℕ) (l : Lists) → compared b c room8 room9 ≡ accepted l → Made b c room8 room9 l
unfolding compared both_tested roomed
made b c room8 room9 l e =
    let p = by (ltb file_limit (length b.file)) (ltb file_limit (length c.file)) e in
    let f = followed (finished 8 room8 (export_diff (viewed b) (viewed c))) _ p.1 in
    let g = followed (finished 9 room9 (need_diff (viewed b) (viewed c))) _ f.then in
    let q : l ≡ lists (viewed b) (viewed c) = one_value (sym g.then) in
    record {
      both = p.0;
      same = q;
      few8 = rw q (finished-few 8 room8 (export_diff (viewed b) (viewed c)) f.first);
      few9 = rw q (finished-few 9 room9 (need_diff (viewed b) (viewed c)) g.first);
    }
  where
    by : (s t : Bool)
        → pick s (refused 14 (spot 0)) (pick t (refused 14 (spot 0))
        (follow (tables_tested b) (λ u. follow (tables_tested c) (λ v. roomed room8 room9 (lists (viewed b) (viewed c)))))) ≡ accepted l
        → (pick s (refused 14 (spot 0)) (pick t (refused 14 (spot 0)) (follow (tables_tested b) (λ u. tables_tested c))) ≡ accepted tt)
        × (roomed room8 room9 (lists (viewed b) (viewed c)) ≡ accepted l)
    by true t q = absurd (never q)
    by false true q = absurd (never q)
    by false false q =
        let f = followed (tables_tested b) _ q in
        let g = followed (tables_tested c) _ f.then in
        (sym (follow-goes (λ u. tables_tested c) f.first (sym g.first)), g.then)

-- ---- where the rows of the lists point
below-export : (file exports : List ℕ) (n : ℕ) (r : Row ExportKey) → r ∈ map (row (export_key_at file exports)) (up_from 0 n) → r.at < n
below-export file exports n r m =
    let u = map-mem (row (export_key_at file exports)) r (up_from 0 n) m in
    let e : r.at ≡ u.0 = ap (λ (s : Row ExportKey). s.at) u.2 in
    omega (arith, (up-to u.0 0 n u.1).1)

below-need : (file imports : List ℕ) (n : ℕ) (r : Row Need)
    → r ∈ map (row (need_at file imports)) (selected (kind_is imports 0) (up_from 0 n)) → (r.at < n) × (r.key.domain ≤ 6)
below-need file imports n r m =
    let u = map-mem (row (need_at file imports)) r (selected (kind_is imports 0) (up_from 0 n)) m in
    let k = keep-to (kind_is imports 0) u.0 (up_from 0 n) u.1 in
    let e : r.at ≡ u.0 = ap (λ (s : Row Need). s.at) u.2 in
    let d : r.key.domain ≡ (need_at file imports u.0).domain = ap (λ (s : Row Need). s.key.domain) u.2 in
    (omega (arith, (up-to u.0 0 n k.0).1), omega (arith, need-small file imports u.0))

-- a change is of a row of its side
of-side : {K : Type 0} (P : ℕ → Row K → Type 0) (e : Entry K) (b c : List (Row K)) (nb nc : ℕ) → IsChange e b c
    → ((r : Row K) → r ∈ b → P nb r) → ((r : Row K) → r ∈ c → P nc r) → P (pick (eqb (change_number e.change) 0) nb nc) e.row
of-side P e b c nb nc (inl u) in_b in_c = rw u.0 (in_b e.row u.1.0)
of-side P e b c nb nc (inr u) in_b in_c = rw u.0 (in_c e.row u.1.0)

module _ (b c : Given) where
  export-in : (e : Entry ExportKey) → e ∈ export_diff (viewed b) (viewed c)
      → e.row.at < pick (eqb (change_number e.change) 0) b.export_count c.export_count
  export-in e m =
      of-side (λ n r. r.at < n) e (viewed b).exports (viewed c).exports b.export_count c.export_count
      ((exports-each (viewed b) (viewed c) e).0 m)
      (below-export b.file b.exports b.export_count) (below-export c.file c.exports c.export_count)

  need-in : (e : Entry Need) → e ∈ need_diff (viewed b) (viewed c)
      → (e.row.at < pick (eqb (change_number e.change) 0) b.import_count c.import_count) × (e.row.key.domain ≤ 6)
  unfolding need_diff
  need-in e m =
      of-side (λ n r. (r.at < n) × (r.key.domain ≤ 6)) e (viewed b).needs (viewed c).needs b.import_count c.import_count
      (changes-mem of-needs e (viewed b).needs (viewed c).needs
      (sort-only need_order of-needs.flaws e (changes cmp_need (viewed b).needs (viewed c).needs) m))
      (below-need b.file b.imports b.import_count) (below-need c.file c.imports c.import_count)

-- ---- so no row is bad
no_export : Entry ExportKey
no_export = entry Removed (record { at = 0; key = record { name = []; kind = 0 } })

no_need : Entry Need
no_need = entry Removed (record { at = 0; key = record { domain = 0; source = [] } })

export-wide : (e : Entry ExportKey) → length (export_diff_cells e) ≡ width 8
export-wide e = refl

need-wide : (e : Entry Need) → length (need_diff_cells e) ≡ width 9
need-wide e = refl

module _ (nb nc : ℕ) (rows : List (Entry ExportKey))
    (fit : (e : Entry ExportKey) → e ∈ rows → e.row.at < pick (eqb (change_number e.change) 0) nb nc) where
  export-good : (i : ℕ) → i < length rows → bad (export_diff_fits nb nc (laid (full_cells 8) (cells export_diff_cells rows))) i ≡ false
  unfolding export_diff_fits
  export-good i h =
      let e = get_or rows i no_export in
      let a : cell_in 8 (laid (full_cells 8) (cells export_diff_cells rows)) i 0 ≡ change_number e.change =
      cell-laid export_diff_cells (width 8) export-wide (full_cells 8) rows i 0 no_export h (omega arith) in
      let p : cell_in 8 (laid (full_cells 8) (cells export_diff_cells rows)) i 1 ≡ e.row.at =
      cell-laid export_diff_cells (width 8) export-wide (full_cells 8) rows i 1 no_export h (omega arith) in
      rw (a, p, lt-ltb e.row.at _ (fit e (get_d-mem no_export rows i h)))

  exports-pass : length rows ≤ limit 8 → export_diffs_tested nb nc (laid (full_cells 8) (cells export_diff_cells rows)) (length rows)
      ≡ accepted tt
  unfolding export_diffs_tested capacity_of
  exports-pass few =
      rows-good export_diff_cells (width 8) (limit 8) (full_cells 8) export-wide rows few
      (bad (export_diff_fits nb nc (laid (full_cells 8) (cells export_diff_cells rows)))) export-good

module _ (nb nc : ℕ) (rows : List (Entry Need))
    (fit : (e : Entry Need) → e ∈ rows
    → (e.row.at < pick (eqb (change_number e.change) 0) nb nc) × (e.row.key.domain ≤ 6)) where
  need-good : (i : ℕ) → i < length rows → bad (need_diff_fits nb nc (laid (full_cells 9) (cells need_diff_cells rows))) i ≡ false
  unfolding need_diff_fits
  need-good i h =
      let e = get_or rows i no_need in
      let u = fit e (get_d-mem no_need rows i h) in
      let a : cell_in 9 (laid (full_cells 9) (cells need_diff_cells rows)) i 0 ≡ change_number e.change =
      cell-laid need_diff_cells (width 9) need-wide (full_cells 9) rows i 0 no_need h (omega arith) in
      let d : cell_in 9 (laid (full_cells 9) (cells need_diff_cells rows)) i 1 ≡ e.row.key.domain =
      cell-laid need_diff_cells (width 9) need-wide (full_cells 9) rows i 1 no_need h (omega arith) in
      let p : cell_in 9 (laid (full_cells 9) (cells need_diff_cells rows)) i 2 ≡ e.row.at =
      cell-laid need_diff_cells (width 9) need-wide (full_cells 9) rows i 2 no_need h (omega arith) in
      rw (a, d, p, le-leb e.row.key.domain 6 u.1, lt-ltb e.row.at _ u.0)

  needs-pass : length rows ≤ limit 9 → need_diffs_tested nb nc (laid (full_cells 9) (cells need_diff_cells rows)) (length rows) ≡ accepted tt
  unfolding need_diffs_tested capacity_of
  needs-pass few =
      rows-good need_diff_cells (width 9) (limit 9) (full_cells 9) need-wide rows few
      (bad (need_diff_fits nb nc (laid (full_cells 9) (cells need_diff_cells rows)))) need-good

-- ---- the claims
pub lists-pass : (b c : Given) (l : Lists) → compared b c (limit 8) (limit 9) ≡ accepted l → reasons_tested b c (tabled l) ≡ accepted tt
unfolding reasons_tested diffs_tested
lists-pass b c l e =
    let m = made b c (limit 8) (limit 9) l e in
    let x : export_diffs_tested b.export_count c.export_count (tabled l).exports (length l.exports) ≡ accepted tt =
    exports-pass b.export_count c.export_count l.exports (rw m.same (export-in b c)) m.few8 in
    let n : need_diffs_tested b.import_count c.import_count (tabled l).needs (length l.needs) ≡ accepted tt =
    needs-pass b.import_count c.import_count l.needs (rw m.same (need-in b c)) m.few9 in
    sym (follow-goes _ m.both (follow-goes _ x (sym n)))

pub explained-lists : (b c : Given) → explained b c ≡ follow (compared b c (limit 8) (limit 9)) (λ l. accepted (with_reasons b c l))
unfolding explained
explained-lists b c = by (compared b c (limit 8) (limit 9)) refl
  where
    by : (x : Said Lists) → compared b c (limit 8) (limit 9) ≡ x
        → follow x (λ l. follow (reasons_tested b c (tabled l)) (λ u. accepted (with_reasons b c l)))
        ≡ follow x (λ l. accepted (with_reasons b c l))
    by (accepted l) e = unfold follow in sym (follow-goes _ (lists-pass b c l e) refl)
    by (refused n p) e = unfold follow in refl
