-- The rows that selected their marks are the missing ones. Assumes nothing.
use Rattle.std.specs.Prelude.{Option}
use mathlib.Core.Path.{◌≡◌, refl, ◌∙◌, ap}
use mathlib.Core.Bool.{Bool, true, false, not}
use mathlib.Core.List.{List}
use Prim.Native.Nat.{ℕ, ◌≤◌, ◌<◌}
use native.Mathlib.Omega.{arith}
use borrow.Author.Tests.{lt-ltb}
use lib.Dec.{eqb}
use lib.ListN.{length, get_or}
use Rattle.refusal.specs.Pick.{pick, both}
use Rattle.table.specs.Table.{cell_of}
use Rattle.sorting.specs.Sort.{◌∈◌, sort, selected, up_from}
use Rattle.sorting.specs.Keys.{row_order, name_of, file_of, row_marked, sorted_rows}
use Rattle.sorting.proofs.Rowing.{lawful-rows}
use Rattle.sorting.proofs.Ranking.{up-to}
use Rattle.sorting.proofs.Numbers.{sort-agree}
use Rattle.sorting.specs.Keys.{Sorts}
use Rattle.sorting.specs.declared.Keys.{Keys}
use Rattle.keyed.specs.Keying.{columns, wanted, same_key, some_other, lost_key, missing, Lacks}
use Rattle.keyed.proofs.Listing.{sorts-whole, missing-few, lists-whole}
use Rattle.keyed.proofs.Missing.{keep-agree}
use Rattle.keyed.specs.Quick.{meets_key, found_mark, Unmarked}

module _ (first second keys found after : List ℕ) (nb n : ℕ) (every : Bool) (u : Unmarked keys found n after)
    (marks : (i : ℕ) → i < n → get_or found i 0 ≡ found_mark first second keys nb n i) where
  same-order : (i j : ℕ) → row_order first second after (columns every) i j ≡ row_order first second keys (columns every) i j
  unfolding row_order name_of file_of
  same-order i j =
      let o : (r k : ℕ) → k < 5 → cell_of after 6 r k ≡ cell_of keys 6 r k = λ r k h. u.others r k h in
      rw (
        o i 0 (omega arith),
        o i 1 (omega arith),
        o i 2 (omega arith),
        o i 3 (omega arith),
        o i 4 (omega arith),
        o j 0 (omega arith),
        o j 1 (omega arith),
        o j 2 (omega arith),
        o j 3 (omega arith),
        o j 4 (omega arith),
      )

  left-marked : (i : ℕ) → i < n → row_marked first second after (columns every) i ≡ lost_key first second keys nb n i
  unfolding row_marked lost_key wanted found_mark meets_key
  left-marked i h =
      ap (λ (x : ℕ). eqb x 1) (u.marks i)
      ∙ rw (lt-ltb i n h, marks i h)
      (by (some_other (λ j. both (wanted first second keys j) (same_key first second keys i j)) nb n i) (eqb (cell_of keys 6 i 5) 1) refl)
    where
      by : (t w : Bool) → eqb (cell_of keys 6 i 5) 1 ≡ w
          → eqb (pick (eqb (pick t 1 0) 1) 0 (cell_of keys 6 i 5)) 1 ≡ both (eqb (cell_of keys 6 i 5) 1) (not t)
      by true true e = rw e
      by true false e = rw e
      by false true e = rw e
      by false false e = rw e

  -- so the sort of the rows that are left gives the missing rows in order
  pub left-missing : sorted_rows first second after (columns every) n ≡ missing first second keys nb n every
  unfolding sorted_rows missing
  left-missing =
      let lost = lost_key first second keys nb n in
      let below : (i : ℕ) → i ∈ up_from 0 n → i < n = λ i m. let v = up-to i 0 n m in omega arith in
      ap (sort (row_order first second after (columns every)))
      (keep-agree (row_marked first second after (columns every)) lost (up_from 0 n) (λ i m. left-marked i (below i m)))
      ∙ sort-agree (row_order first second after (columns every)) (row_order first second keys (columns every))
      (lawful-rows first second keys (columns every)) (selected lost (up_from 0 n)) (λ x y i j. same-order x y)

-- ---- the whole call
pub whole-quick : (first second keys after : List ℕ) (nb n : ℕ) (every : Bool) {before numbers : List ℕ} {t : Bool}
    {r : Option ℕ} {k : Keys}
    → ((e : Bool) → sorted_rows first second after (columns e) n ≡ missing first second keys nb n e) → nb ≤ n → k ≡ columns every
    → Sorts (sorted_rows first second after k n) before numbers r → n ≤ length before → t ≡ true
    → Lacks t (missing first second keys nb n every) before numbers r
whole-quick first second keys after nb n every {before} {numbers} {r = r} d within c s room y =
    let q : Sorts (sorted_rows first second after (columns every) n) before numbers r = rw c at s in
    let w = sorts-whole (missing first second keys nb n every) before numbers r (rw (d every) at q)
    (omega (arith, missing-few first second keys nb n within every)) in
    lists-whole y refl w

pub whole-slow : (first second : List ℕ) (nb n : ℕ) (every : Bool) {keys after before numbers : List ℕ} {t u : Bool} {r : Option ℕ}
    → after ≡ keys → t ≡ u → Lacks t (missing first second after nb n every) before numbers r
    → Lacks u (missing first second keys nb n every) before numbers r
whole-slow first second nb n every e q l = rw (← e, ← q) l
