-- Rule 6 by a sort: names are all different exactly where a list of them without repeats is as long. Assumes nothing.
use Rattle.std.specs.Prelude.{Option, Some, None}
use Rattle.std.specs.Option.{option_eq}
use Prim.Native.Nat.{ℕ, zero, suc, ◌≤◌}
use native.Mathlib.Omega.{arith}
use mathlib.Core.Path.{◌≡◌, refl, sym, ◌∙◌, ap}
use mathlib.Core.Bool.{Bool, true, false, false≢true}
use mathlib.Core.Logic.{◌⊎◌, inl, inr}
use mathlib.Core.List.Memᴰ
use mathlib.Core.List.{List, [], ◌∷◌, map}
use borrow.Author.Tests.{eq-eqb, ne_eqb, eqb-true}
use lib.ListN.{length}
use lib.Dec.{eqb}
use Rattle.refusal.specs.Pick.{pick}
use Rattle.refusal.specs.Said.{accepted}
use Rattle.refusal.proofs.Following.{never, one_value}
use Rattle.text.specs.Find.{same}
use Rattle.std.specs.declared.cmp.Ordering.{Ordering}
use Rattle.std.specs.declared.cmp.Ordering.TheVariants.{Less, Equal, Greater}
use Rattle.text.proofs.FindLaws.{same-is, same_self}
use Rattle.table.specs.Shape.{width, limit}
use Rattle.table.proofs.Cells.{cell-beside}
use Rattle.table.proofs.Reading.{finished-room}
use Rattle.sorting.specs.Order.{Lawful}
use Rattle.sorting.specs.Sort.{◌∈◌, place, put_in_order, sort, selected, up_from, Ascending}
use Rattle.sorting.specs.Keys.{by_name, row_name, row_order, row_marked, sorted_rows, said_sorted, Sorts}
use Rattle.sorting.proofs.Sorts.{NoTie, sort-only, sort-ascends, mem-before, sort-has, sort-length}
use Rattle.sorting.proofs.Rowing.{lawful-rows}
use Rattle.sorting.proofs.Ranking.{same_name}
use Rattle.strict.specs.Rules.{has, different, names_of}

-- two cases of an order are not equal
not_equal : {o : Ordering} → o ≡ Less → o ≡ Equal → ⊥
not_equal p q = let z : ◌≡◌ {A = ℕ} 0 1 = cc in omega arith

not-greater : {o : Ordering} → o ≡ Greater → o ≡ Equal → ⊥
not-greater p q = let z : ◌≡◌ {A = ℕ} 0 1 = cc in omega arith

eqb-suc : (a b : ℕ) → eqb (suc a) (suc b) ≡ eqb a b
eqb-suc a b = go (eqb a b) refl
  where
    go : (t : Bool) → eqb a b ≡ t → eqb (suc a) (suc b) ≡ t
    go true e = eq-eqb (suc a) (suc b) (ap suc (eqb-true a b e))
    go false e = ne_eqb (suc a) (suc b) (λ q. false≢true (sym e ∙ eq-eqb a b (omega arith)))

-- ---- how long a list is when one more is put in
module _ {A : Type 0} (cmp : A → A → Ordering) (laws : Lawful cmp) where
  pub put-tied : (x t : A) (l : List A) → Ascending cmp l → t ∈ l → cmp x t ≡ Equal → length (put_in_order cmp x l) ≡ length l
  put-tied x t [] a m e = absurd (Memᴰ.not-nil m)
  put-tied x t (y ∷ l) a m e = go (cmp x y) refl (Memᴰ.cases_cons m) (λ i. put-tied x t l a.1 i e)
    where
      here : t ≡ y → cmp x y ≡ Equal
      here p = rw (sym p) e

      go : (o : Ordering) → cmp x y ≡ o → (t ≡ y) ⊎ (t ∈ l) → (t ∈ l → length (put_in_order cmp x l) ≡ length l)
          → length (place o x y l (put_in_order cmp x l)) ≡ length (y ∷ l)
      go Less q (inl p) ih = absurd (not_equal q (here p))
      go Less q (inr i) ih =
          let k : cmp x t ≡ Less = rw (q, mem-before cmp laws y t l a.0 i) at (laws.join x y t) in
          absurd (not_equal k e)
      go Equal q c ih = refl
      go Greater q (inl p) ih = absurd (not-greater q (here p))
      go Greater q (inr i) ih = ap suc (ih i)

  pub put-new : (x : A) (l : List A) → NoTie cmp x l → length (put_in_order cmp x l) ≡ suc (length l)
  put-new x [] n = refl
  put-new x (y ∷ l) n = go (cmp x y) refl (put-new x l n.1)
    where
      go : (o : Ordering) → cmp x y ≡ o → length (put_in_order cmp x l) ≡ suc (length l) → length (place o x y l (put_in_order cmp x l))
          ≡ suc (suc (length l))
      go Less q ih = refl
      go Equal q ih = absurd (n.0 q)
      go Greater q ih = ap suc ih

  no_tie : (x : A) (l : List A) → ((t : A) → t ∈ l → cmp x t ≡ Equal → ⊥) → NoTie cmp x l
  no_tie x [] h = tt
  no_tie x (y ∷ l) h = (h y (Memᴰ.head refl), no_tie x l (λ t m. h t (Memᴰ.tail m)))

  -- ---- names that tell which elements tie
  module _ (name : A → List ℕ) (ties : (x y : A) → cmp x y ≡ Equal → name x ≡ name y)
      (tied : (x y : A) → name x ≡ name y → cmp x y ≡ Equal) where
    has_one : (x : A) (l : List A) → has (name x) (map name l) ≡ true → (t : A) × (t ∈ l) × (cmp x t ≡ Equal)
    unfolding has
    has_one x [] e = absurd (false≢true e)
    has_one x (y ∷ l) e = go (same (name x) (name y)) refl e (has_one x l)
      where
        go : (t : Bool) → same (name x) (name y) ≡ t → pick t true (has (name x) (map name l)) ≡ true
            → (has (name x) (map name l) ≡ true → (t : A) × (t ∈ l) × (cmp x t ≡ Equal)) → (t : A) × (t ∈ (y ∷ l)) × (cmp x t ≡ Equal)
        go true q f ih = (y, Memᴰ.head refl, tied x y (sym (same-is (name x) (name y) q)))
        go false q f ih = let r = ih f in (r.0, Memᴰ.tail r.1, r.2)

    has-none : (x : A) (l : List A) → has (name x) (map name l) ≡ false → (t : A) → t ∈ l → cmp x t ≡ Equal → ⊥
    unfolding has
    has-none x [] e t m q = Memᴰ.not-nil m
    has-none x (y ∷ l) e t m q = go (same (name x) (name y)) refl e (Memᴰ.cases_cons m) (λ f i. has-none x l f t i q)
      where
        go : (s : Bool) → same (name x) (name y) ≡ s → pick s true (has (name x) (map name l)) ≡ false → (t ≡ y) ⊎ (t ∈ l)
            → (has (name x) (map name l) ≡ false → t ∈ l → ⊥) → ⊥
        go true p f c ih = false≢true (sym f)
        go false p f (inr i) ih = ih f i
        go false p f (inl w) ih =
            let u : name x ≡ name y = ties x t q ∙ ap name w in
            false≢true (sym p ∙ ap (same (name x)) (sym u) ∙ same_self (name x))

    pub sort-full : (l : List A) → eqb (length (sort cmp l)) (length l) ≡ different (map name l)
    unfolding different
    sort-full [] = refl
    sort-full (x ∷ l) = go (has (name x) (map name l)) refl (sort-full l)
      where
        go : (t : Bool) → has (name x) (map name l) ≡ t → eqb (length (sort cmp l)) (length l) ≡ different (map name l)
            → eqb (length (put_in_order cmp x (sort cmp l))) (suc (length l)) ≡ pick t false (different (map name l))
        go true e ih =
            let o = has_one x l e in
            let s = sort-has cmp laws o.0 l o.1 in
            let j : cmp x s.0 ≡ cmp o.0 s.0 = rw o.2 at (laws.join x o.0 s.0) in
            let k = put-tied x s.0 (sort cmp l) (sort-ascends cmp laws l) s.1 (j ∙ s.2) in
            ne_eqb (length (put_in_order cmp x (sort cmp l))) (suc (length l)) (λ q. omega (arith, k, sort-length cmp l))
        go false e ih =
            let n = no_tie x (sort cmp l) (λ t m. has-none x l e t (sort-only cmp laws t l m)) in
            rw (put-new x (sort cmp l) n) (eqb-suc (length (sort cmp l)) (length l) ∙ ih)

-- ---- the names of rows of table 3
length_up : (i n : ℕ) → length (up_from i n) ≡ n
length_up i zero = refl
length_up i (suc n) = ap suc (length_up (suc i) n)

module _ (file table : List ℕ) (n : ℕ) where
  all-marked : (l : List ℕ) → selected (row_marked file file table (by_name (width 3) 0 1 (width 3) 0)) l ≡ l
  unfolding row_marked
  all-marked [] = refl
  all-marked (x ∷ l) = rw (cell-beside table 4 x 4 (omega arith), all-marked l)

  names-full : eqb (length (sorted_rows file file table (by_name (width 3) 0 1 (width 3) 0) n)) n ≡ different (names_of file table n)
  unfolding sorted_rows names_of
  names-full =
      let order = row_order file file table (by_name (width 3) 0 1 (width 3) 0) in
      rw (all-marked (up_from 0 n))
      (ap (eqb (length (sort order (up_from 0 n)))) (sym (length_up 0 n))
      ∙ sort-full order (lawful-rows file file table (by_name (width 3) 0 1 (width 3) 0)) (row_name file table (width 3) 0 1)
      (λ i j. (same_name file file table (width 3) 0 1 (width 3) 0 i j).0)
      (λ i j. (same_name file file table (width 3) 0 1 (width 3) 0 i j).1) (up_from 0 n))

  fewer : length (sorted_rows file file table (by_name (width 3) 0 1 (width 3) 0) n) ≤ n
  unfolding sorted_rows
  fewer =
      let order = row_order file file table (by_name (width 3) 0 1 (width 3) 0) in
      rw (all-marked (up_from 0 n)) (omega (arith, sort-length order (up_from 0 n), length_up 0 n))

  module _ {before after : List ℕ} {r : Option ℕ} (long : length before ≡ limit 3) (room : n ≤ limit 3)
      (h : Sorts (sorted_rows file file table (by_name (width 3) 0 1 (width 3) 0) n) before after r) where
    told : said_sorted 0 r ≡ accepted (length (sorted_rows file file table (by_name (width 3) 0 1 (width 3) 0) n))
    told =
        h.answer-is 0 ∙ finished-room 0 (length before) (sorted_rows file file table (by_name (width 3) 0 1 (width 3) 0) n)
        (omega (arith, fewer, long))

    pub differ-count : {k : ℕ} → r ≡ Some k → eqb k n ≡ different (names_of file table n)
    differ-count {k} e = ap (λ (x : ℕ). eqb x n) (one_value (ap (said_sorted 0) (sym e) ∙ told)) ∙ names-full

    pub differ-room : r ≡ None → ⊥
    differ-room e = never (ap (said_sorted 0) (sym e) ∙ told)

pub differ-sorted : (file table : List ℕ) (n : ℕ) (before after : List ℕ) (r : Option ℕ) → length before ≡ limit 3 → n ≤ limit 3
    → Sorts (sorted_rows file file table (by_name (width 3) 0 1 (width 3) 0) n) before after r
    → option_eq eqb r (Some n) ≡ different (names_of file table n)
differ-sorted file table n before after (Some k) long room h = differ-count file table n long room h refl
differ-sorted file table n before after None long room h = absurd (differ-room file table n long room h refl)
