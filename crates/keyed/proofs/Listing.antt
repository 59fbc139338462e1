-- A sorted list in a table that has room, and what the whole call answers. Assumes nothing.
use Rattle.std.specs.Prelude.{Option, Some, None}
use mathlib.Core.Path.{◌≡◌, refl, sym, ◌∙◌, ap}
use mathlib.Core.Bool.{Bool, true, false}
use mathlib.Core.List.{List, [], ◌∷◌}
use Prim.Native.Nat.{ℕ, zero, suc, ◌-◌, ◌≤◌, ◌<◌}
use native.Mathlib.Omega.{arith}
use borrow.Author.Tests.{le-leb, leb-true}
use lib.Dec.{leb}
use lib.ListN.{length, take, replicate}
use lib.Seq.{take_at}
use Rattle.refusal.specs.Pick.{pick, both}
use Rattle.refusal.specs.Said.{accepted}
use Rattle.refusal.proofs.Following.{never}
use Rattle.std.specs.declared.cmp.Ordering.{Ordering}
use Rattle.text.proofs.Laws.{both_one, both-two}
use Rattle.table.specs.Table.{laid, cells, rows_of}
use Rattle.table.specs.Entries.{fitting}
use Rattle.table.proofs.Laws.{length-laid}
use Rattle.table.proofs.Reading.{finished-room}
use Rattle.sorting.specs.Sort.{◌∈◌, sort, selected, up_from}
use Rattle.sorting.specs.Keys.{row_order, row_marked, sorted_rows, other_rows, said_sorted, Sorts}
use Rattle.sorting.specs.declared.Keys.{Keys}
use Rattle.sorting.proofs.Sorts.{sort-length}
use Rattle.keyed.specs.Keying.{columns, by_rank, same_key, lost_key, missing, holds_all, Whole, Lacks, single, ranked, lonely}
use Rattle.keyed.proofs.Missing.{list, of-list, left-sorted}

-- ---- a list in a table that has room for it
pub sorts-whole : (l before after : List ℕ) (r : Option ℕ) → Sorts l before after r → length l ≤ length before → Whole l before after r
unfolding fitting
sorts-whole l before after r s h =
    record {
      answer-is = by r (s.answer-is 0 ∙ finished-room 0 (length before) l h);
      table_is = s.table_is ∙ ap (laid (length before)) (rw (le-leb (length l) (length before) h));
    }
  where
    by : (q : Option ℕ) → said_sorted 0 q ≡ accepted (length l) → q ≡ Some (length l)
    by (Some m) e = ap Some (cc)
    by None e = absurd (never e)

keep-length : (p : ℕ → Bool) (l : List ℕ) → length (selected p l) ≤ length l
keep-length p [] = omega arith
keep-length p (x ∷ l) = by (p x) (keep-length p l)
  where
    by : (t : Bool) → length (selected p l) ≤ length l → length (pick t (x ∷ selected p l) (selected p l)) ≤ suc (length l)
    by true h = omega arith
    by false h = omega arith

up-length : (i n : ℕ) → length (up_from i n) ≡ n
up-length i zero = refl
up-length i (suc n) = ap suc (up-length (suc i) n)

few : (cmp : ℕ → ℕ → Ordering) (p : ℕ → Bool) (n : ℕ) → length (sort cmp (selected p (up_from 0 n))) ≤ n
few cmp p n = omega (arith, sort-length cmp (selected p (up_from 0 n)), keep-length p (up_from 0 n), up-length 0 n)

-- ---- room for every row
pub room_as : {r : Bool} (n : ℕ) {a b c a1 b1 c1 : ℕ} → r ≡ holds_all n a b c → a ≡ a1 → b ≡ b1 → c ≡ c1 → r ≡ holds_all n a1 b1 c1
room_as n e p q s = rw (← p, ← q, ← s) e

module _ (n a b c : ℕ) {r : Bool} (e : r ≡ holds_all n a b c) (h : r ≡ true) where
  rooms : both (leb n a) (both (leb n b) (leb n c)) ≡ true
  unfolding holds_all
  rooms = sym e ∙ h

  pub room-ranks : n ≤ a
  room-ranks = leb-true n a (both_one (leb n a) _ rooms)

  pub room-lost : n ≤ b
  room-lost = leb-true n b (both_one (leb n b) _ (both-two (leb n a) _ rooms))

  pub room-list : n ≤ c
  room-list = leb-true n c (both-two (leb n b) _ (both-two (leb n a) _ rooms))

-- ---- the first list: every wanted row
module _ (first second keys : List ℕ) (n : ℕ) where
  pub list-few : length (list first second keys n) ≤ n
  unfolding sorted_rows
  list-few = few (row_order first second keys (columns true)) (row_marked first second keys (columns true)) n

  module _ {before after : List ℕ} {r : Option ℕ} {k : Keys} (c : k ≡ columns true)
      (s : Sorts (sorted_rows first second keys k n) before after r) (room : n ≤ length before) where
    abbrev whole : Whole (list first second keys n) before after r
    whole =
        let l : Sorts (list first second keys n) before after r = rw c at s in
        sorts-whole (list first second keys n) before after r l (omega (arith, list-few))

    pub not_full : r ≡ None → ⊥
    not_full e = let q = sym e ∙ whole.answer-is in let z : ◌≡◌ {A = ℕ} 0 1 = cc in omega arith

    pub list_count : (m : ℕ) → r ≡ Some m → m ≤ length after
    list_count m e =
        let q = sym e ∙ whole.answer-is in
        let k : m ≡ length (list first second keys n) = cc in
        omega (arith, ap length whole.table_is, length-laid (length before) (list first second keys n) (omega (arith, list-few)), list-few)

    pub list-is : (m : ℕ) → r ≡ Some m → take m after ≡ list first second keys n
    unfolding laid
    list-is m e =
        let q = sym e ∙ whole.answer-is in
        let k : length (list first second keys n) ≡ m = cc in
        ap (take m) whole.table_is
        ∙ take_at (list first second keys n) (replicate (length before - length (list first second keys n)) 0) m k

    pub list_length : length after ≡ length before
    list_length =
        ap length whole.table_is ∙ length-laid (length before) (list first second keys n) (omega (arith, list-few))

    pub list-fits : (m : ℕ) → r ≡ Some m → (size : ℕ) → n ≤ size → (i : ℕ) → i ∈ take m after → i < size
    list-fits m e size h i k = omega (arith, (of-list first second keys n i (rw (list-is m e) at k)).0)

-- ---- the answer
module _ (first second keys : List ℕ) (nb n : ℕ) (within : nb ≤ n) (every : Bool) where
  pub missing-few : length (missing first second keys nb n every) ≤ n
  unfolding missing
  missing-few = few (row_order first second keys (columns every)) (lost_key first second keys nb n) n

  -- the marks that the code leaves are those of the ranks
  left_as : (size total : ℕ) → n ≤ size → {zeros rs marks : List ℕ} → zeros ≡ laid size []
      → rs ≡ ranked (same_key first second keys) (list first second keys n) zeros
      → marks ≡ laid total (cells single (rows_of (lonely rs nb n) n))
      → other_rows first second marks (by_rank every) n ≡ missing first second keys nb n every
  left_as size total h z e q =
      ap (λ (t : List ℕ). other_rows first second t (by_rank every) n)
      (q
      ∙ ap (λ (t : List ℕ). laid total (cells single (rows_of (lonely t nb n) n)))
      (e ∙ ap (ranked (same_key first second keys) (list first second keys n)) z))
      ∙ left-sorted first second keys n size h nb within total every

  pub missing-done : (size total : ℕ) → n ≤ size → {zeros rs marks numbers before after : List ℕ} {r : Option ℕ}
      → zeros ≡ laid size []
      → rs ≡ ranked (same_key first second keys) (list first second keys n) zeros
      → marks ≡ laid total (cells single (rows_of (lonely rs nb n) n))
      → Sorts (other_rows first second marks (by_rank every) n) numbers after r
      → length numbers ≡ length before → n ≤ length before
      → Whole (missing first second keys nb n every) before after r
  missing-done size total h {numbers = numbers} {before = before} {after = after} {r = r} z e q s k room =
      let l = missing first second keys nb n every in
      let w = sorts-whole l numbers after r (rw (left_as size total h z e q) at s) (omega (arith, missing-few)) in
      record { answer-is = w.answer-is; table_is = w.table_is ∙ ap (λ (m : ℕ). laid m l) k }

pub lists-whole : {l zeros before after : List ℕ} {t : Bool} {r : Option ℕ} → t ≡ true → length zeros ≡ length before
    → Whole l zeros after r → Lacks t l before after r
lists-whole {l = l} e k w = record { answer-is = rw e w.answer-is; table_is = rw e (w.table_is ∙ ap (λ (m : ℕ). laid m l) k) }

pub lists-none : {l before after : List ℕ} {t : Bool} → t ≡ false → after ≡ laid (length before) [] → Lacks t l before after None
lists-none e h = record { answer-is = rw e; table_is = rw e h }

-- a table that was cleared
pub cleared-length : {t : List ℕ} {n : ℕ} → t ≡ laid n [] → length t ≡ n
cleared-length {n = n} e = ap length e ∙ length-laid n [] (omega arith)

pub cleared : {t : List ℕ} (n : ℕ) → t ≡ laid n [] → t ≡ laid (length t) []
cleared n e = e ∙ ap (λ (m : ℕ). laid m []) (sym (cleared-length e))
