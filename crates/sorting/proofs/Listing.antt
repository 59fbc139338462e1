-- A table that is filled with a sorted list, row by row. Assumes nothing.
use Rattle.std.specs.Prelude.{Option, Some, None, Ok, Err}
use mathlib.Core.Path.{◌≡◌, refl, sym, ◌∙◌, ap, subst}
use mathlib.Core.Bool.{Bool, true, false}
use mathlib.Core.List.{List, [], ◌∷◌, ◌++◌, append_assoc}
use Prim.Native.Nat.{ℕ, zero, suc, ◌+◌, ◌-◌, ◌≤◌, ◌<◌}
use native.Mathlib.Numerals.{add-one}
use native.Mathlib.Omega.{arith}
use lib.ListN.{length, take, drop, set, replicate, length-append, length-drop, length-replicate, take-append-drop}
use lib.Seq.{take-take, length-take-le, set_split, drop-append-le, take_at, drop-append-add, drop-drop}
use borrow.Author.Tests.{le-leb, lt-leb}
use Rattle.std.specs.declared.cmp.Ordering.{Ordering}
use Rattle.table.specs.Table.{laid}
use Rattle.table.specs.Entries.{finished, fitting}
use Rattle.refusal.proofs.Following.{never}
use Rattle.table.proofs.Laws.{laid_nil, drop-replicate}
use Rattle.sorting.specs.Order.{Lawful}
use Rattle.sorting.specs.Sort.{put_in_order, sort, selected, up_from}
use Rattle.sorting.specs.Keys.{said_sorted, Sorts}
use Rattle.sorting.specs.Filling.{Placed, Ordered, Filled, Inserted, inserted}
use Rattle.sorting.proofs.Sorts.{put-grows, put-ascends}

-- ---- a row put in, at either kind of place
module _ (cmp : ℕ → ℕ → Ordering) (x : ℕ) (table : List ℕ) (k p : ℕ) where
  -- the list has one row more
  pub placed-more : k ≤ length table → Placed cmp x (take k table) (Err p) → k + 1 ≡ length (put_in_order cmp x (take k table))
  placed-more h g =
      let n : length (take k table) ≡ k = length-take-le k table h in
      let q : p ≤ length (take k table) = g.within in
      rw g.put_is (simp (length-append, length-drop, length-take-le p (take k table) q) (omega arith))

  pub placed-full : k ≤ length table → length table ≤ k → Placed cmp x (take k table) (Err p)
      → length table < length (put_in_order cmp x (take k table))
  placed-full h f g = omega (arith, placed-more h g)

  pub filled-before : k < length table → Placed cmp x (take k table) (Err p)
      → Filled (put_in_order cmp x (take k table)) table (inserted table p k x) (k + 1)
  filled-before h g =
      let n : length (take k table) ≡ k = length-take-le k table (omega arith) in
      let q : p ≤ length (take k table) = g.within in
      record {
        count = placed-more (omega arith) g;
        holds = rw (g.put_is, add-one, append_assoc, take-take p k table (omega arith));
      }

  pub filled-over : k ≤ length table → Placed cmp x (take k table) (Ok p)
      → Filled (put_in_order cmp x (take k table)) table (set table p x) k
  filled-over h g =
      let n : length (take k table) ≡ k = length-take-le k table h in
      let q : p < length (take k table) = g.within in
      let e : drop (suc p) table ≡ drop (suc p) (take k table) ++ drop k table =
      ap (drop (suc p)) (sym (take-append-drop k table)) ∙ drop-append-le (suc p) (take k table) (drop k table) q in
      record {
        count = rw g.put_is (simp (length-append, length-drop, length-take-le p (take k table) (omega arith)) (omega arith));
        holds =
            rw (g.put_is, append_assoc, take-take p k table (omega arith))
            (set_split table p x (omega arith) ∙ rw e);
      }

-- ---- what a filled table begins with, and how many it holds
pub filled-take : (l before after : List ℕ) (r : ℕ) → Filled l before after r → take r after ≡ l
filled-take l before after r f = ap (take r) f.holds ∙ take_at l (drop r before) r (sym f.count)

pub filled-room : (l before after : List ℕ) (r : ℕ) → Filled l before after r → length after ≡ length before → r ≤ length before
filled-room l before after r f e =
    let n : length after ≡ length l + (length before - r) =
    ap length f.holds ∙ simp (length-append, length-drop) in
    omega (arith, f.count)

-- past a list and more, what followed it
drop_past : (l before : List ℕ) (k r : ℕ) → k ≡ length l → k ≤ r → drop r (l ++ drop k before) ≡ drop r before
drop_past l before k r e h =
    let a : r ≡ length l + (r - k) = omega arith in
    let b : k + (r - k) ≡ r = omega arith in
    ap (λ (m : ℕ). drop m (l ++ drop k before)) a
    ∙ drop-append-add l (drop k before) (r - k)
    ∙ drop-drop (r - k) k before
    ∙ ap (λ (m : ℕ). drop m before) b

-- ---- a row put into a table whose first k are in order: its first r are in order then
pub ordered-step : (cmp : ℕ → ℕ → Ordering) (laws : Lawful cmp) (x k : ℕ) (table after : List ℕ) {s : Option ℕ} (r : ℕ) → Ordered cmp table k
    → s ≡ Some r → Inserted (put_in_order cmp x (take k table)) table after s → length after ≡ length table → Ordered cmp after r
ordered-step cmp laws x k table after r o q h e =
    let l = put_in_order cmp x (take k table) in
    let g : Filled l table after r = subst (Inserted l table after) q h in
    record {
      room = omega (arith, filled-room l table after r g e);
      ascends = rw (filled-take l table after r g) (put-ascends cmp laws x (take k table) o.ascends);
    }

-- ---- a table that is filled with the sorted list of some rows l
module _ (cmp : ℕ → ℕ → Ordering) (l before table : List ℕ) (k : ℕ) (f : Filled (sort cmp l) before table k) where
  -- with one more row put in, it is filled with that of the row and l
  pub filled-step : (x : ℕ) (after : List ℕ) {s : Option ℕ} (r : ℕ) → s ≡ Some r
      → Inserted (put_in_order cmp x (take k table)) table after s → Filled (sort cmp (x ∷ l)) before after r
  filled-step x after r q h =
      let g : Filled (put_in_order cmp x (take k table)) table after r =
      subst (Inserted (put_in_order cmp x (take k table)) table after) q h in
      let e = filled-take (sort cmp l) before table k f in
      let p : put_in_order cmp x (take k table) ≡ sort cmp (x ∷ l) = ap (put_in_order cmp x) e in
      let more : k ≤ r = omega (arith, g.count, f.count, put-grows cmp x (take k table), ap length e) in
      record {
        count = rw (← p) g.count;
        holds =
            rw (← p)
            (g.holds
            ∙ ap (λ (t : List ℕ). put_in_order cmp x (take k table) ++ t)
            (ap (drop r) f.holds ∙ drop_past (sort cmp l) before k r f.count more));
      }

  -- or the list of the row and l is longer than the table
  pub full-step : (x : ℕ) (after : List ℕ) {s : Option ℕ} → s ≡ None → Inserted (put_in_order cmp x (take k table)) table after s
      → length table < length (sort cmp (x ∷ l))
  full-step x after q h =
      let g : length table < length (put_in_order cmp x (take k table)) = subst
      (Inserted (put_in_order cmp x (take k table)) table after) q h in
      rw (filled-take (sort cmp l) before table k f) at g

-- the list replaced by an equal one
pub filled-as : (cmp : ℕ → ℕ → Ordering) {l m before table : List ℕ} {k : ℕ} → l ≡ m → Filled (sort cmp l) before table k
    → Filled (sort cmp m) before table k
filled-as cmp {before = before} {table} {k} e f = subst (λ (t : List ℕ). Filled (sort cmp t) before table k) e f

-- ---- the rows from i on below n that pass a test: none, one more or no more, all
abbrev pub kept_from : (ℕ → Bool) → ℕ → ℕ → List ℕ
kept_from p i n = selected p (up_from i (n - i))

rows_step : (n i j : ℕ) → j + 1 ≡ i → i ≤ n → up_from j (n - j) ≡ j ∷ up_from i (n - i)
rows_step n i j h b =
    let e : n - j ≡ suc (n - i) = omega arith in
    let d : suc j ≡ i = omega arith in
    ap (up_from j) e ∙ ap (λ (m : ℕ). j ∷ up_from m (n - i)) d

pub kept-yes : (p : ℕ → Bool) (n i j : ℕ) → j + 1 ≡ i → i ≤ n → p j ≡ true → kept_from p j n ≡ j ∷ kept_from p i n
kept-yes p n i j h b t = ap (selected p) (rows_step n i j h b) ∙ rw t

pub kept-no : (p : ℕ → Bool) (n i j : ℕ) → j + 1 ≡ i → i ≤ n → p j ≡ false → kept_from p j n ≡ kept_from p i n
kept-no p n i j h b t = ap (selected p) (rows_step n i j h b) ∙ rw t

pub kept-all : (p : ℕ → Bool) (n i : ℕ) → i ≤ 0 → kept_from p i n ≡ selected p (up_from 0 n)
kept-all p n i h =
    let e : i ≡ 0 = omega arith in
    let d : n - i ≡ n = omega arith in
    ap (λ (m : ℕ). selected p (up_from i m)) d ∙ ap (λ (m : ℕ). selected p (up_from m n)) e

-- the list only grows towards the first row
pub kept-grows : (cmp : ℕ → ℕ → Ordering) (p : ℕ → Bool) (n i : ℕ) → i ≤ n
    → length (sort cmp (kept_from p i n)) ≤ length (sort cmp (selected p (up_from 0 n)))
kept-grows cmp p n zero h = omega (arith, ap (λ (l : List ℕ). length (sort cmp l)) (kept-all p n zero (omega arith)))
kept-grows cmp p n (suc i) h = by (p i) refl (kept-grows cmp p n i (omega arith))
  where
    by : (t : Bool) → p i ≡ t → length (sort cmp (kept_from p i n)) ≤ length (sort cmp (selected p (up_from 0 n)))
        → length (sort cmp (kept_from p (suc i) n)) ≤ length (sort cmp (selected p (up_from 0 n)))
    by true e ih =
        let q = kept-yes p n (suc i) i (omega arith) h e in
        omega (arith, ap (λ (l : List ℕ). length (sort cmp l)) q, put-grows cmp i (sort cmp (kept_from p (suc i) n)))
    by false e ih =
        let q = kept-no p n (suc i) i (omega arith) h e in
        omega (arith, ap (λ (l : List ℕ). length (sort cmp l)) q)

-- ---- the two ends
pub sorts-rows : (l before zeros after : List ℕ) (k : ℕ) → zeros ≡ laid (length before) [] → Filled l zeros after k
    → length after ≡ length zeros → Sorts l before after (Some k)
unfolding laid finished fitting
sorts-rows l before zeros after k z f e =
    let n : length zeros ≡ length before = ap length z ∙ simp length-replicate (omega arith) in
    let fits : length l ≤ length before = omega (arith, filled-room l zeros after k f e, f.count) in
    let rest : drop k zeros ≡ replicate (length before - length l) 0 =
    ap (drop k) (z ∙ laid_nil (length before))
    ∙ drop-replicate k (length before) 0
    ∙ ap (λ (m : ℕ). replicate (length before - m) 0) f.count in
    record {
      answer-is = λ tn. rw (le-leb (length l) (length before) fits, f.count);
      table_is = rw (le-leb (length l) (length before) fits) (f.holds ∙ ap (λ (t : List ℕ). l ++ t) rest);
    }

pub sorts-full : (l before after : List ℕ) → length before < length l → after ≡ laid (length before) [] → Sorts l before after None
unfolding finished fitting
sorts-full l before after h e =
    record {
      answer-is = λ tn. rw (lt-leb (length l) (length before) h);
      table_is = rw (lt-leb (length l) (length before) h) e;
    }

-- the rules' words tell the answer
pub said-known : (r s : Option ℕ) → said_sorted 0 r ≡ said_sorted 0 s → r ≡ s
said-known (Some m) (Some n) e = let q : m ≡ n = cc in ap Some q
said-known (Some m) None e = absurd (never (sym e))
said-known None (Some n) e = absurd (never e)
said-known None None e = refl

-- at most one answer, and one content of the table
pub sorts-unique : {l before a b : List ℕ} {r s : Option ℕ} → Sorts l before a r → Sorts l before b s → (r ≡ s) × (a ≡ b)
sorts-unique {r = r} {s = s} f g =
    (said-known r s (f.answer-is 0 ∙ sym (g.answer-is 0)), f.table_is ∙ sym g.table_is)
