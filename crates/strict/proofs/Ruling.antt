-- The rules' loops, a row at a time; and the rows that a table holds. Assumes nothing.
use Prim.Native.Nat.{ℕ, zero, suc, ◌+◌, ◌≤◌, ◌<◌}
use native.Mathlib.Omega.{arith}
use native.Mathlib.Nat.{zero-add}
use mathlib.Core.Path.{◌≡◌, refl, sym, ◌∙◌, ap}
use mathlib.Core.Bool.{Bool, true, false}
use mathlib.Core.List.{List, [], ◌∷◌, ◌++◌, map}
use borrow.Author.Tests.{ne_eqb, le-leb, lt-leb, lt-ltb, le-ltb, ltb-true, ltb-false}
use lib.ListN.{length, get_or, drop, get_or-append}
use lib.Seq.{get_or-append_seam}
use Rattle.std.proofs.lemmas.List.FromFn.{length-range_with_len, get_or-range_with_len}
use lib.Dec.{leb, ltb}
use Rattle.std.specs.Bool.{MatchBool}
use Rattle.std.specs.List.{range_with_len, AllWithin, HoldsAt}
use Rattle.refusal.specs.Pick.{both}
use Rattle.table.specs.Table.{cell_of, range_of, rows_of, laid, cells}
use Rattle.table.specs.Shape.{width}
use Rattle.text.proofs.Laws.{left-next, left-none}
use Rattle.table.proofs.Laws.{cell-laid, rows_back, length-rows}
use Rattle.sorting.specs.Sort.{up_from}
use Rattle.sorting.specs.Keys.{row_name}
use Rattle.wasm.specs.Shapes.{Export, Section}
use Rattle.wasm.specs.Rows.{export_cells}
use Rattle.wasm.specs.Module.{section_cells}
use Rattle.strict.specs.Rules.{none_above, section_place, ordered_from, ordered, column_of, names_of}

-- ---- where a section stands
module _ (id : ℕ) where
  pub place-few : id < 10 → id ≡ section_place id
  unfolding section_place
  place-few h = rw (lt-ltb id 10 h)

  pub place-late : 10 ≤ id → (id ≡ 10 → ⊥) → (id ≡ 11 → ⊥) → (id ≡ 12 → ⊥) → 13 ≡ section_place id
  unfolding section_place
  place-late h a b c = rw (le-ltb id 10 h, ne_eqb id 10 a, ne_eqb id 11 b, ne_eqb id 12 c)

-- ---- the rows of a column
row-at : {R : Type 0} (g : ℕ → R) (d : R) (n i : ℕ) → i < n → get_or (rows_of g n) i d ≡ g i
unfolding rows_of
row-at g d zero i h = absurd (omega arith)
row-at {R} g d (suc n) i h = go (ltb i n) refl (row-at g d n i)
  where
    go : (t : Bool) → ltb i n ≡ t → (i < n → get_or (rows_of g n) i d ≡ g i) → get_or (rows_of g n ++ (g n ∷ [])) i d ≡ g i
    go true q ih =
        let k = ltb-true i n q in
        let m : i < length (rows_of g n) = rw (length-rows g n) k in
        get_or-append (rows_of g n) (g n ∷ []) d i m ∙ ih k
    go false q ih =
        let e : i ≡ length (rows_of g n) = omega (arith, ltb-false i n q, length-rows g n) in
        let f : i ≡ n = omega (arith, e, length-rows g n) in
        ap (λ (k : ℕ). get_or (rows_of g n ++ (g n ∷ [])) k d) e ∙ get_or-append_seam (rows_of g n) (g n) [] d ∙ ap g (sym f)

none-all : (last : ℕ) (l : List ℕ) → ((k : ℕ) → k < length l → get_or l k 0 ≤ last) → true ≡ none_above last l
unfolding none_above
none-all last [] h = refl
none-all last (x ∷ l) h = rw (le-leb x last (h 0 (omega arith))) (none-all last l (λ k b. h (suc k) (omega arith)))

none-some : (last : ℕ) (l : List ℕ) (k : ℕ) → k < length l → last < get_or l k 0 → false ≡ none_above last l
unfolding none_above
none-some last [] k h a = absurd (omega arith)
none-some last (x ∷ l) zero h a = rw (lt-leb x last a)
none-some last (x ∷ l) (suc k) h a = go (leb x last) (none-some last l k (omega arith) a)
  where
    go : (t : Bool) → false ≡ none_above last l → false ≡ both t (none_above last l)
    go true e = e
    go false e = refl

module _ (table : List ℕ) (w j n : ℕ) where
  column-long : length (column_of table w j n) ≡ n
  unfolding column_of
  column-long = length-rows (λ i. cell_of table w i j) n

  column-at : (i : ℕ) → i < n → get_or (column_of table w j n) i 0 ≡ cell_of table w i j
  unfolding column_of
  column-at i h = row-at (λ i. cell_of table w i j) 0 n i h

  -- none of them is above a bound, as a test of each told
  pub none-told : (last : ℕ) (r : Bool)
      → MatchBool r (AllWithin (λ i. cell_of table w i j ≤ last) (range_with_len 0 n) 0 (length (range_with_len 0 n)))
      ((k : ℕ) × (k < length (range_with_len 0 n)) × HoldsAt (λ i. last < cell_of table w i j) (range_with_len 0 n) k)
      → r ≡ none_above last (column_of table w j n)
  none-told last true h =
      none-all last (column_of table w j n) (λ k b.
      let m : k < n = omega (arith, b, column-long) in
      let g : cell_of table w (get_or (range_with_len 0 n) k 0) j ≤ last = h k 0 (omega arith) (rw (length-range_with_len 0 n) m) in
      rw (column-at k m) (rw (get_or-range_with_len 0 n k 0 m, zero-add) at g))
  none-told last false h =
      let k = h.0 in
      let m : k < n = omega (arith, h.1, length-range_with_len 0 n) in
      let g : last < cell_of table w (get_or (range_with_len 0 n) k 0) j = h.2 0 in
      none-some last (column_of table w j n) k (rw column-long m) (rw (column-at k m) (rw (get_or-range_with_len 0 n k 0 m, zero-add) at g))

  -- ---- the order's loop: what is left from row i on, after the last place so far
  pub order-whole : ordered_from 0 (drop 0 (column_of table w j n)) ≡ ordered (column_of table w j n)
  unfolding ordered
  order-whole = refl

  pub order-none : (last i : ℕ) → n ≤ i → true ≡ ordered_from last (drop i (column_of table w j n))
  unfolding ordered_from
  order-none last i h = rw (left-none (column_of table w j n) i (rw column-long h))

  module _ (last i : ℕ) {x p : ℕ} (is : x ≡ cell_of table w i j) (at : p ≡ section_place x) (h : i < n) where
    column-rest : drop i (column_of table w j n) ≡ x ∷ drop (i + 1) (column_of table w j n)
    column-rest =
        left-next (column_of table w j n) i (rw column-long h)
        ∙ ap (λ (y : ℕ). y ∷ drop (i + 1) (column_of table w j n)) (column-at i h ∙ sym is)

    pub order-passes : p ≡ 0 → ordered_from last (drop (i + 1) (column_of table w j n)) ≡ ordered_from last (drop i (column_of table w j n))
    unfolding ordered_from
    order-passes e = rw (column-rest, sym at, e)

    pub order_on : (p ≡ 0 → ⊥) → last < p
        → ordered_from p (drop (i + 1) (column_of table w j n)) ≡ ordered_from last (drop i (column_of table w j n))
    unfolding ordered_from
    order_on o k = rw (column-rest, sym at, ne_eqb p 0 o, lt-ltb last p k)

    pub order-ends : (p ≡ 0 → ⊥) → p ≤ last → false ≡ ordered_from last (drop i (column_of table w j n))
    unfolding ordered_from
    order-ends o k = rw (column-rest, sym at, ne_eqb p 0 o, le-ltb last p k)

-- ---- a column of a table that holds rows
get_d_map : {A B : Type 0} (f : A → B) (l : List A) (i : ℕ) (d : A) (e : B) → i < length l → get_or (map f l) i e ≡ f (get_or l i d)
get_d_map f [] i d e h = absurd (omega arith)
get_d_map f (x ∷ l) zero d e h = refl
get_d_map f (x ∷ l) (suc i) d e h = get_d_map f l i d e (omega arith)

length-map : {A B : Type 0} (f : A → B) (l : List A) → length (map f l) ≡ length l
length-map f [] = refl
length-map f (x ∷ l) = ap suc (length-map f l)

module _ {R : Type 0} (f : R → List ℕ) (w : ℕ) (wide : (r : R) → length (f r) ≡ w) (size : ℕ) where
  column-with : (rs : List R) (d : R) (j : ℕ) (g : R → ℕ) → j < w → ((r : R) → get_or (f r) j 0 ≡ g r)
      → column_of (laid size (cells f rs)) w j (length rs) ≡ map g rs
  unfolding column_of
  column-with rs d j g h is =
      ap (rows_of (λ i. cell_of (laid size (cells f rs)) w i j)) (sym (length-map g rs))
      ∙ rows_back (λ i. cell_of (laid size (cells f rs)) w i j) (map g rs) 0 (λ i b. at i (rw (length-map g rs) at b))
    where
      at : (i : ℕ) → i < length rs → cell_of (laid size (cells f rs)) w i j ≡ get_or (map g rs) i 0
      at i b = cell-laid f w wide size rs i j d b h ∙ is (get_or rs i d) ∙ sym (get_d_map g rs i d 0 b)

  pub column-rows : (rs : List R) (j : ℕ) (g : R → ℕ) → j < w → ((r : R) → get_or (f r) j 0 ≡ g r)
      → column_of (laid size (cells f rs)) w j (length rs) ≡ map g rs
  unfolding column_of rows_of
  column-rows [] j g h is = refl
  column-rows (r ∷ rs) j g h is = column-with (r ∷ rs) r j g h is

-- ---- names of rows that a table holds
map-up : {A B : Type 0} (g : ℕ → B) (h : A → B) (d : A) (rs : List A) (a : ℕ) → ((i : ℕ) → i < length rs → g (a + i) ≡ h (get_or rs i d))
    → map g (up_from a (length rs)) ≡ map h rs
map-up g h d [] a f = refl
map-up g h d (r ∷ rs) a f =
    let e : g a ≡ h r = ap g (omega arith) ∙ f 0 (omega arith) in
    let q : map g (up_from (suc a) (length rs)) ≡ map h rs =
    map-up g h d rs (suc a) (λ i b. ap g (omega arith) ∙ f (suc i) (omega arith)) in
    cc

module _ (b : List ℕ) (size : ℕ) where
  export-wide : (r : Export) → length (export_cells r) ≡ width 3
  unfolding export_cells
  export-wide r = refl

  name-with : (rs : List Export) (d : Export) (i : ℕ) → i < length rs → row_name b (laid size (cells export_cells rs)) (width 3) 0 1 i
      ≡ range_of b (get_or rs i d).name.from (get_or rs i d).name.len
  unfolding export_cells
  name-with rs d i h =
      let e = cell-laid export_cells (width 3) export-wide size rs i 0 d h (omega arith) in
      let f = cell-laid export_cells (width 3) export-wide size rs i 1 d h (omega arith) in
      rw (e, f)

  pub names-rows : (rs : List Export) → names_of b (laid size (cells export_cells rs)) (length rs)
      ≡ map (λ (r : Export). range_of b r.name.from r.name.len) rs
  unfolding names_of
  names-rows [] = refl
  names-rows (r ∷ rs) =
      map-up (row_name b (laid size (cells export_cells (r ∷ rs))) (width 3) 0 1) (λ (r : Export). range_of b r.name.from r.name.len) r
      (r ∷ rs) 0 (λ i h. ap (row_name b (laid size (cells export_cells (r ∷ rs))) (width 3) 0 1) (omega arith) ∙ name-with (r ∷ rs) r i h)

  pub kinds-rows : (rs : List Export) → column_of (laid size (cells export_cells rs)) (width 3) 2 (length rs)
      ≡ map (λ (r : Export). r.kind) rs
  unfolding export_cells
  kinds-rows rs = column-rows export_cells (width 3) export-wide size rs 2 (λ (r : Export). r.kind) (omega arith) (λ r. refl)

  section-wide : (r : Section) → length (section_cells r) ≡ width 1
  unfolding section_cells
  section-wide r = refl

  pub ids-rows : (rs : List Section) → column_of (laid size (cells section_cells rs)) (width 1) 0 (length rs)
      ≡ map (λ (r : Section). r.id) rs
  unfolding section_cells
  ids-rows rs = column-rows section_cells (width 1) section-wide size rs 0 (λ (r : Section). r.id) (omega arith) (λ r. refl)
