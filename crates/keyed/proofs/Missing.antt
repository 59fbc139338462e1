-- The rows that the other list lacks: by rank as by key. Assumes nothing.
use mathlib.Core.Path.{◌≡◌, refl, sym, ◌∙◌, ap}
use mathlib.Core.Bool.{Bool, true, false, not}
use mathlib.Core.List.Memᴰ
use mathlib.Core.List.{List, [], ◌∷◌, ◌++◌}
use Prim.Native.Nat.{ℕ, zero, suc, ◌+◌, ◌≤◌, ◌<◌}
use native.Mathlib.Omega.{arith}
use borrow.Author.Tests.{ltb-true, ltb-false, ne_eqb}
use lib.Dec.{eqb, ltb}
use lib.ListN.{length, get_or, get_or-append}
use lib.Seq.{get_or-append-add}
use Rattle.refusal.specs.Pick.{pick, both}
use Rattle.text.specs.Order.{cmp_nat, and_then, cmp_bytes}
use Rattle.std.specs.declared.cmp.Ordering.{Ordering}
use Rattle.std.specs.declared.cmp.Ordering.TheVariants.{Less, Equal, Greater}
use Rattle.text.proofs.OrderLaws.{cmp-refl}
use Rattle.table.specs.Table.{cell_of, range_of, laid, cells, rows_of}
use Rattle.table.proofs.Laws.{length-laid, length-rows, cell-laid, zero-past}
use Rattle.table.proofs.Cells.{cell-beside}
use Rattle.sorting.specs.Order.{Lawful}
use Rattle.sorting.specs.Sort.{◌∈◌, sort, selected, up_from}
use Rattle.sorting.specs.Keys.{row_order, name_of, file_of, row_marked, unmarked, sorted_rows, other_rows}
use Rattle.sorting.proofs.Rowing.{lawful-rows}
use Rattle.sorting.proofs.Ranking.{keep-to, up-to, sorted-ranked, every-apart}
use Rattle.sorting.proofs.Numbers.{sort-agree}
use Rattle.differences.specs.Differences.{ties}
use Rattle.keyed.specs.Keying.{columns, by_rank, key_order, same_key, wanted, some_other, lost_key, missing, single, ranked, lonely}
use Rattle.keyed.proofs.Sameness.{ties-nat}
use Rattle.keyed.proofs.Ranking.{Rising, Fits, ascending-rises, ranks-agree, ranks-up, ranks-other}
use Rattle.keyed.proofs.Searching.{like, other-agree}

never : true ≡ false → ⊥
never e = let z : ◌≡◌ {A = ℕ} 0 1 = cc in omega arith

then-last : (a b c p : Ordering) → and_then a (and_then b (and_then c p)) ≡ and_then (and_then a (and_then b (and_then c Equal))) p
then-last Less b c p = refl
then-last Equal Less c p = refl
then-last Equal Equal Less p = refl
then-last Equal Equal Equal p = refl
then-last Equal Equal Greater p = refl
then-last Equal Greater c p = refl
then-last Greater b c p = refl

less-greater : (o p : Ordering) → and_then o p ≡ Less → o ≡ Greater → ⊥
less-greater Less p e h = let z : ◌≡◌ {A = ℕ} 0 1 = cc in omega arith
less-greater Equal p e h = let z : ◌≡◌ {A = ℕ} 0 1 = cc in omega arith
less-greater Greater p e h = let z : ◌≡◌ {A = ℕ} 0 1 = cc in omega arith

pub keep-agree : {A : Type 0} (p q : A → Bool) (l : List A) → ((x : A) → x ∈ l → p x ≡ q x) → selected p l ≡ selected q l
keep-agree p q [] h = refl
keep-agree p q (x ∷ l) h = rw (h x (Memᴰ.head refl), keep-agree p q l (λ y m. h y (Memᴰ.tail m)))

-- row i of the rows
pub row_of : {R : Type 0} (g : ℕ → R) (n i : ℕ) (d : R) → i < n → get_or (rows_of g n) i d ≡ g i
unfolding rows_of
row_of g zero i d h = absurd (omega arith)
row_of g (suc n) i d h = by (ltb i n) refl (row_of g n i d)
  where
    by : (t : Bool) → ltb i n ≡ t → (i < n → get_or (rows_of g n) i d ≡ g i) → get_or (rows_of g n ++ (g n ∷ [])) i d ≡ g i
    by true e r =
        get_or-append (rows_of g n) (g n ∷ []) d i (omega (arith, ltb-true i n e, length-rows g n)) ∙ r (ltb-true i n e)
    by false e r =
        let q : i ≡ length (rows_of g n) + 0 = omega (arith, ltb-false i n e, length-rows g n) in
        let k : i ≡ n = omega (arith, ltb-false i n e) in
        ap (λ (j : ℕ). get_or (rows_of g n ++ (g n ∷ [])) j d) q ∙ get_or-append-add (rows_of g n) (g n ∷ []) 0 d ∙ ap g (sym k)

-- a table of ranks is sorted by them
by_rank-order : (first second table : List ℕ) (every : Bool) (i j : ℕ) → row_order first second table (by_rank every) i j
    ≡ and_then (cmp_nat (cell_of table 1 i 0) (cell_of table 1 j 0)) (pick every (cmp_nat i j) Equal)
unfolding row_order name_of file_of
by_rank-order first second table every i j =
    rw (
      cell-beside table 1 i 1 (omega arith),
      cell-beside table 1 j 1 (omega arith),
      cmp-refl (range_of first 0 0),
    )

module _ (first second keys : List ℕ) where
  -- by the key, and where rows of one key are told apart, by the row
  pub key-then : (every : Bool) (i j : ℕ) → row_order first second keys (columns every) i j
      ≡ and_then (key_order first second keys i j) (pick every (cmp_nat i j) Equal)
  unfolding key_order row_order name_of file_of
  key-then every i j =
      then-last (cmp_nat (cell_of keys 6 i 3) (cell_of keys 6 j 3))
      (cmp_bytes (name_of first second keys (columns false) i) (name_of first second keys (columns false) j))
      (cmp_nat (cell_of keys 6 i 4) (cell_of keys 6 j 4)) (pick every (cmp_nat i j) Equal)

  pub lawful-keys : Lawful (key_order first second keys)
  unfolding key_order
  lawful-keys = lawful-rows first second keys (columns false)

  module _ (n : ℕ) where
    -- every wanted row, in order
    abbrev pub list : List ℕ
    list = sorted_rows first second keys (columns true) n

    in_list : (i : ℕ) → i < n → wanted first second keys i ≡ true → i ∈ list
    unfolding wanted row_marked
    in_list i h w =
        ((sorted-ranked first second keys (columns true) n).each i).1
        (record {
          below = h;
          wanted = w;
          lowest = λ j b t q. omega (arith, every-apart first second keys (columns true) refl i j q);
        })

    pub of-list : (i : ℕ) → i ∈ list → (i < n) × (wanted first second keys i ≡ true)
    unfolding wanted row_marked
    of-list i m =
        let r = ((sorted-ranked first second keys (columns true) n).each i).0 m in
        (r.below, r.wanted)

    rising : Rising (key_order first second keys) lawful-keys list
    rising =
        ascending-rises (key_order first second keys) (row_order first second keys (columns true)) lawful-keys
        (lawful-rows first second keys (columns true))
        (λ x y e g. less-greater (key_order first second keys x y) (cmp_nat x y) (sym (key-then true x y) ∙ e) g) list
        (sorted-ranked first second keys (columns true) n).ascends

    module _ (size : ℕ) (room : n ≤ size) where
      -- the ranks, in a table that was zero
      abbrev pub ranks : List ℕ
      ranks = ranked (same_key first second keys) list (laid size [])

      abbrev rank : ℕ → ℕ
      rank i = get_or ranks i 0

      pub fits : Fits (key_order first second keys) lawful-keys list (laid size [])
      fits x m = omega (arith, (of-list x m).0, length-laid size [] (omega arith))

      zero-at : (x : ℕ) → get_or (laid size []) x 0 ≡ 0
      zero-at x = let e : x ≡ 0 + x = omega arith in ap (λ (k : ℕ). get_or (laid size []) k 0) e ∙ zero-past size [] x

      rank-order : (i j : ℕ) → i < n → j < n → wanted first second keys i ≡ true → wanted first second keys j ≡ true
          → cmp_nat (rank i) (rank j) ≡ key_order first second keys i j
      unfolding same_key
      rank-order i j h k v w =
          ranks-agree (key_order first second keys) lawful-keys (laid size []) list rising fits i j (in_list i h v) (in_list j k w)

      rank-some : (i : ℕ) → i < n → wanted first second keys i ≡ true → 1 ≤ rank i
      unfolding same_key
      rank-some i h w = ranks-up (key_order first second keys) lawful-keys (laid size []) list rising fits i (in_list i h w)

      rank-none : (i : ℕ) → wanted first second keys i ≡ false → rank i ≡ 0
      unfolding same_key
      rank-none i w =
          ranks-other (key_order first second keys) lawful-keys (laid size []) list i (λ m. never (sym (of-list i m).1 ∙ w))
          ∙ zero-at i

      -- rows have one rank where they have one key
      like_is : (i j : ℕ) → i < n → j < n → wanted first second keys i ≡ true
          → eqb (rank i) (rank j) ≡ both (wanted first second keys j) (same_key first second keys i j)
      unfolding same_key
      like_is i j h k v = by (wanted first second keys j) refl
        where
          by : (t : Bool) → wanted first second keys j ≡ t → eqb (rank i) (rank j) ≡ both t (ties (key_order first second keys i j))
          by true w = sym (ties-nat (rank i) (rank j)) ∙ ap ties (rank-order i j h k v w)
          by false w = ne_eqb (rank i) (rank j) (λ q. omega (arith, rank-some i h v, rank-none j w))

      module _ (nb : ℕ) (within : nb ≤ n) where
        lonely-is : (i : ℕ) → i < n → lonely ranks nb n i ≡ pick (lost_key first second keys nb n i) (rank i) 0
        unfolding lonely lost_key like
        lonely-is i h = by (wanted first second keys i) refl
          where
            met : ℕ → Bool
            met j = both (wanted first second keys j) (same_key first second keys i j)

            turned : (t : Bool) (r : ℕ) → pick t 0 r ≡ pick (not t) r 0
            turned true r = refl
            turned false r = refl

            zeros : (t : Bool) (r : ℕ) → r ≡ 0 → pick t 0 r ≡ 0
            zeros true r e = refl
            zeros false r e = e

            by : (t : Bool) → wanted first second keys i ≡ t
                → pick (some_other (like ranks nb n i) nb n i) 0 (rank i) ≡ pick (both t (not (some_other met nb n i))) (rank i) 0
            by true w =
                rw (other-agree (like ranks nb n i) met nb n i within (λ j k. like_is i j h k w))
                (turned (some_other met nb n i) (rank i))
            by false w = zeros (some_other (like ranks nb n i) nb n i) (rank i) (rank-none i w)

        lost-wanted : (i : ℕ) → lost_key first second keys nb n i ≡ true → wanted first second keys i ≡ true
        unfolding lost_key
        lost-wanted i = by (wanted first second keys i) _
          where
            by : (t s : Bool) → both t s ≡ true → t ≡ true
            by true s e = refl
            by false s e = absurd (never (sym e))

        -- the table of the ranks that are left
        module _ (total : ℕ) (every : Bool) where
          abbrev pub left : List ℕ
          left = laid total (cells single (rows_of (lonely ranks nb n) n))

          cell-is : (i : ℕ) → i < n → cell_of left 1 i 0 ≡ pick (lost_key first second keys nb n i) (rank i) 0
          cell-is i h =
              cell-laid single 1 (λ x. refl) total (rows_of (lonely ranks nb n) n) i 0 0 (omega (arith, length-rows (lonely ranks nb n) n))
              (omega arith)
              ∙ row_of (lonely ranks nb n) n i 0 h ∙ lonely-is i h

          left_is : (i : ℕ) → i < n → unmarked first second left (by_rank every) i ≡ lost_key first second keys nb n i
          unfolding unmarked row_marked
          left_is i h = rw (cell-is i h) (by (lost_key first second keys nb n i) refl)
            where
              by : (t : Bool) → lost_key first second keys nb n i ≡ t → pick (eqb (pick t (rank i) 0) 0) false true ≡ t
              by true e = rw (ne_eqb (rank i) 0 (λ q. omega (arith, rank-some i h (lost-wanted i e))))
              by false e = refl

          order_is : (i j : ℕ) → i < n → j < n → lost_key first second keys nb n i ≡ true → lost_key first second keys nb n j ≡ true
              → row_order first second left (by_rank every) i j ≡ row_order first second keys (columns every) i j
          order_is i j h k v w =
              by_rank-order first second left every i j
              ∙ rw (cell-is i h, cell-is j k, v, w, rank-order i j h k (lost-wanted i v) (lost-wanted j w))
              (sym (key-then every i j))

          pub left-sorted : other_rows first second left (by_rank every) n ≡ missing first second keys nb n every
          unfolding other_rows missing
          left-sorted =
              let lost = lost_key first second keys nb n in
              let below : (i : ℕ) → i ∈ up_from 0 n → i < n = λ i m. let u = up-to i 0 n m in omega arith in
              let has : (i : ℕ) → i ∈ selected lost (up_from 0 n) → (i < n) × (lost i ≡ true) =
              λ i m. let k = keep-to lost i (up_from 0 n) m in (below i k.0, k.1) in
              ap (sort (row_order first second left (by_rank every)))
              (keep-agree (unmarked first second left (by_rank every)) lost (up_from 0 n) (λ i m. left_is i (below i m)))
              ∙ sort-agree (row_order first second left (by_rank every)) (row_order first second keys (columns every))
              (lawful-rows first second keys (columns every)) (selected lost (up_from 0 n))
              (λ x y i j. order_is x y (has x i).0 (has y j).0 (has x i).1 (has y j).1)
