-- Table 7 of a manifest, by what the calls found. Assumes nothing.
use Rattle.std.specs.Prelude.{Option, Some, None}
use mathlib.Core.Path.{◌≡◌, refl, sym, ◌∙◌, ap, subst}
use mathlib.Core.Bool.{Bool, true, false}
use mathlib.Core.List.{List, [], ◌∷◌, map}
use Prim.Native.Nat.{ℕ, zero, suc, ◌+◌, ◌-◌, ◌*◌, ◌≤◌, ◌<◌}
use native.Mathlib.Nat.{mul-one}
use native.Mathlib.Numerals.{add-one}
use native.Mathlib.Omega.{arith}
use borrow.Author.Tests.{lt-leb, leb-true}
use lib.Dec.{leb}
use lib.ListN.{length, get_or, replicate, length-map, get_or-append}
use Rattle.refusal.specs.Pick.{pick}
use Rattle.refusal.specs.Said.{accepted, refused, follow, spot, Place}
use Rattle.refusal.proofs.Following.{never}
use Rattle.table.specs.Table.{laid, put_row, rows_of, name_in}
use Rattle.table.specs.Shape.{width, cell_in}
use Rattle.table.specs.Entries.{finished}
use Rattle.table.specs.Listing.{fitted}
use Rattle.table.proofs.Cells.{cell-there}
use Rattle.table.proofs.Laws.{rows_back, length-rows}
use Rattle.table.proofs.Reading.{full-exactly, fitting-room}
use Rattle.sorting.specs.Keys.{by_name, sorted_rows, said_sorted, Sorts}
use Rattle.sorting.specs.declared.Keys.{Keys}
use Rattle.domains.specs.Classify.{path_domain}
use Rattle.reference_rows.specs.Queries.{manifest_tested, path_rows}
use Rattle.requirements.specs.Requirements.{room_of}
use Rattle.requirements.specs.Filling.{Column, Fills}
use Rattle.requirements.proofs.Filling.{column-more}
use Rattle.requirements.specs.Interfaces.{reference_domain, domain_of_cell, manifest_rows}

-- the domain of a row, by its path
pub row-domain : (s references : List ℕ) (i : ℕ) {path : List ℕ} → path ≡ name_in s references (width 6) i 2
    → path_domain path ≡ reference_domain s references i
row-domain s references i e = rw e

-- a turn of the loop
pub column-turn : (g : ℕ → ℕ) (n i : ℕ) {v : ℕ} {t after : List ℕ} → Column n (rows_of g i) t → v ≡ g i → after ≡ put_row t i (v ∷ [])
    → Column n (rows_of g (i + 1)) after
unfolding rows_of
column-turn g n i {v} {t} {after} c q e =
    rw (add-one i, ← q) (column-more v c (sym (length-rows g i)) e)

pub column-end : (g : ℕ → ℕ) {n m i k : ℕ} (t : List ℕ) → n ≡ m → i ≤ k → k ≤ i → Column n (rows_of g i) t → Column m (rows_of g k) t
column-end g {n} {m} {i} {k} t e h j c =
    let q : i ≡ k = omega arith in
    subst (λ (y : ℕ). Column y (rows_of g k) t) e (subst (λ (y : ℕ). Column n (rows_of g y) t) q c)

-- ---- the domains of the rows that a column lists
of-list : (of : ℕ → ℕ) (l : List ℕ) (i : ℕ) → of (get_or l i 0) ≡ get_or (map of l) i (of 0)
of-list of [] i = refl
of-list of (x ∷ l) zero = refl
of-list of (x ∷ l) (suc i) = of-list of l i

pub domains-listed : (of : ℕ → ℕ) (n : ℕ) (l rows : List ℕ) → rows ≡ laid n l
    → rows_of (λ i. of (cell_in 7 rows i 0)) (length l) ≡ map of l
unfolding laid
domains-listed of n l rows e =
    ap (rows_of (λ i. of (cell_in 7 rows i 0))) (sym (length-map l of))
    ∙ rows_back (λ i. of (cell_in 7 rows i 0)) (map of l) (of 0) each
  where
    each : (i : ℕ) → i < length (map of l) → of (cell_in 7 rows i 0) ≡ get_or (map of l) i (of 0)
    each i h =
        let k : i < length l = omega (arith, length-map l of) in
        let z : i * 1 + 0 ≡ i = omega (arith, mul-one i) in
        ap of (cell-there rows 1 i 0 (omega arith) ∙ ap (λ (j : ℕ). get_or rows j 0) z ∙ ap (λ (r : List ℕ). get_or r i 0) e
        ∙ get_or-append l (replicate (n - length l) 0) 0 i k) ∙ of-list of l i

-- ---- what the sort said
module _ (s worlds : List ℕ) (n5 : ℕ) (references : List ℕ) (n6 : ℕ) where
  pub manifest-bad : (room : ℕ) {m : ℕ} {p : Place} → manifest_tested s worlds n5 references n6 ≡ refused m p
      → manifest_rows s worlds n5 references n6 room ≡ refused m p
  unfolding manifest_rows follow
  manifest-bad room e = rw e

  module _ {u : Unit {0}} (good : manifest_tested s worlds n5 references n6 ≡ accepted u) {k : Keys} (is : k ≡ by_name (width 6) 2 3 1 0)
      {rows rows1 : List ℕ} {r : Option ℕ} (sorts : Sorts (sorted_rows s s references k n6) rows rows1 r) where
    pub listed : (room : ℕ) → manifest_rows s worlds n5 references n6 room ≡ fitted 7 room (sorted_rows s s references k n6)
    unfolding manifest_rows follow path_rows
    listed room = rw (good, is)

    pub full-rows : (domains : List ℕ) → r ≡ None
        → manifest_rows s worlds n5 references n6 (room_of (length domains) (length rows)) ≡ refused 13 (spot 7)
    unfolding fitted
    full-rows domains e =
        let f : length rows < length (sorted_rows s s references k n6) =
        full-exactly 7 (length rows) (sorted_rows s s references k n6) (sym (sorts.answer-is 7) ∙ ap (said_sorted 7) e) in
        listed (room_of (length domains) (length rows))
        ∙ rw (lt-leb (length (sorted_rows s s references k n6)) (room_of (length domains) (length rows)) (omega arith))

    module _ {n : ℕ} (e : r ≡ Some n) where
      counted : (n ≡ length (sorted_rows s s references k n6)) × (length (sorted_rows s s references k n6) ≤ length rows)
      unfolding finished
      counted = by (leb (length (sorted_rows s s references k n6)) (length rows)) refl (sym (ap (said_sorted 7) e) ∙ sorts.answer-is 7)
        where
          by : (b : Bool) → leb (length (sorted_rows s s references k n6)) (length rows) ≡ b
              → accepted n ≡ pick b (accepted (length (sorted_rows s s references k n6))) (refused 13 (spot 7))
              → (n ≡ length (sorted_rows s s references k n6)) × (length (sorted_rows s s references k n6) ≤ length rows)
          by true q f = (cc, leb-true (length (sorted_rows s s references k n6)) (length rows) q)
          by false q f = absurd (never (sym f))

      pub in-column : rows1 ≡ laid (length rows) (sorted_rows s s references k n6)
      in-column = sorts.table_is ∙ ap (laid (length rows)) (fitting-room 7 (length rows) (sorted_rows s s references k n6) counted.1)

      pub over-rows : (domains : List ℕ) {room : ℕ} → room ≡ room_of (length domains) (length rows) → room < n
          → manifest_rows s worlds n5 references n6 (room_of (length domains) (length rows)) ≡ refused 13 (spot 7)
      unfolding fitted
      over-rows domains q h =
          listed (room_of (length domains) (length rows))
          ∙ rw (lt-leb (length (sorted_rows s s references k n6)) (room_of (length domains) (length rows)) (omega (arith, counted.0, q)))

      pub filled : (domains : List ℕ) {domains1 : List ℕ} → Column (length domains) (rows_of (domain_of_cell s references rows1) n) domains1
          → length rows1 ≡ length rows
          → Fills (reference_domain s references) (sorted_rows s s references k n6) domains domains1 rows rows1 n
      filled domains {domains1} c q =
          let of = reference_domain s references in
          let l = sorted_rows s s references k n6 in
          let x : rows_of (domain_of_cell s references rows1) n ≡ map of l =
          ap (rows_of (domain_of_cell s references rows1)) counted.0 ∙ domains-listed of (length rows) l rows1 in-column in
          record {
            count = counted.0;
            in-domains = subst (λ (y : List ℕ). Column (length domains) y domains1) x c;
            in_rows = record { long = q; holds = λ h. in-column };
          }
