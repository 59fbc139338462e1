-- The line at the front of what is left. Assumes nothing.
use mathlib.Core.Path.{◌≡◌, refl, ◌∙◌}
use mathlib.Core.Bool.{Bool, true, false}
use mathlib.Core.List.{List, [], ◌∷◌}
use Prim.Native.Nat.{ℕ, suc, ◌+◌, ◌-◌, ◌≤◌, ◌<◌}
use native.Mathlib.Omega.{arith}
use lib.Dec.{eqb, ltb, leb, leb-suc-suc}
use lib.ListN.{length, get_or, take, drop, length-drop}
use lib.Seq.{drop-drop}
use borrow.Author.Tests.{eq-eqb, ne_eqb, lt-ltb, le-ltb, ltb-true, ltb-false}
use Rattle.refusal.specs.Pick.{pick, both}
use Rattle.text.specs.Find.{seek, begins, index_of}
use Rattle.text.specs.Lines.{onto, before, lines, end_by, cr_before, line_len, line_step}
use Rattle.text.proofs.Laws.{both-no, left-none}
use Rattle.text.proofs.FindLaws.{index-le, index-cons}

-- ---- the line at the front
end-zero : (t : Bool) → end_by t 0 ≡ 0
end-zero true = refl
end-zero false = refl

end-suc : (t : Bool) (m : ℕ) → end_by t (suc (suc m)) ≡ suc (end_by t (suc m))
end-suc true m = omega arith
end-suc false m = refl

-- a byte more before a line that has one
module _ (x : ℕ) (s : List ℕ) (m : ℕ) (n : index_of 10 s ≡ suc m) (e : index_of 10 (x ∷ s) ≡ suc (suc m)) where
  len-suc : line_len (x ∷ s) ≡ suc (line_len s)
  unfolding line_len cr_before
  len-suc =
      let p : suc (suc m) - 1 ≡ suc m = omega arith in
      let q : suc m - 1 ≡ m = omega arith in
      let more = leb-suc-suc (suc (suc m)) (length s) in
      let one = lt-ltb 0 (suc m) (omega arith) in
      let two = lt-ltb 0 (suc (suc m)) (omega arith) in
      rw (n, e) (rw (p, q, more, one, two) (end-suc (both (leb (suc (suc m)) (length s)) (both true (eqb (get_or s m 0) 13))) m))

  step-suc : line_step (x ∷ s) ≡ suc (line_step s)
  unfolding line_step
  step-suc = rw (n, e) (rw (leb-suc-suc (suc (suc m)) (length s)) (by (ltb (suc m) (length s))))
    where
      by : (t : Bool) → pick t (suc (suc m) + 1) (suc (suc m)) ≡ suc (pick t (suc m + 1) (suc m))
      by true = omega arith
      by false = refl

-- the first line of s, and the lines after it
abbrev Next : List ℕ → Type 0
Next s = lines s ≡ take (line_len s) s ∷ lines (drop (line_step s) s)

-- LF first
next-lf : (x : ℕ) (s : List ℕ) → eqb x 10 ≡ true → Next (x ∷ s)
unfolding lines before line_len line_step
next-lf x s e =
    let n : index_of 10 (x ∷ s) ≡ 0 = rw (index-cons, e) in
    rw (n, e, end-zero, lt-ltb 0 (suc (length s)) (omega arith))

-- one byte alone
next_one : (x : ℕ) → eqb x 10 ≡ false → Next (x ∷ [])
unfolding lines before onto line_len line_step cr_before begins
next_one x e =
    let n : index_of 10 (x ∷ []) ≡ 1 = rw (index-cons, e) (unfold index_of seek in refl) in
    rw (n, e, both-no)

-- a byte, then LF
next-two : (x y : ℕ) (s : List ℕ) → eqb x 10 ≡ false → eqb y 10 ≡ true → Next (x ∷ y ∷ s)
unfolding lines before onto line_len line_step cr_before begins
next-two x y s e f =
    let n : index_of 10 (x ∷ y ∷ s) ≡ 1 = rw (index-cons, e, index-cons, f) in
    rw (n, e, f, lt-ltb 1 (suc (suc (length s))) (omega arith)) (by (eqb x 13))
  where
    by : (t : Bool) → before false (both t true) x ([] ∷ lines s) ≡ take (end_by t 1) (x ∷ y ∷ s) ∷ lines s
    by true = refl
    by false = refl

next-on : (x y : ℕ) (s : List ℕ) → eqb x 10 ≡ false → eqb y 10 ≡ false → lines (x ∷ y ∷ s) ≡ onto x (lines (y ∷ s))
unfolding lines before begins
next-on x y s e f = rw (e, f, both-no)

onto-next : (x : ℕ) (s : List ℕ) {l : List ℕ} {ls : List (List ℕ)} → lines s ≡ l ∷ ls → onto x (lines s) ≡ (x ∷ l) ∷ ls
unfolding onto
onto-next x s e = rw e

-- a byte, then another than LF
next_more : (x y : ℕ) (s : List ℕ) → eqb x 10 ≡ false → eqb y 10 ≡ false → Next (y ∷ s) → Next (x ∷ y ∷ s)
next_more x y s e f ih =
    let n : index_of 10 (y ∷ s) ≡ suc (index_of 10 s) = rw (index-cons, f) in
    let k : index_of 10 (x ∷ y ∷ s) ≡ suc (suc (index_of 10 s)) = rw (index-cons, e, n) in
    rw (len-suc x (y ∷ s) (index_of 10 s) n k, step-suc x (y ∷ s) (index_of 10 s) n k) (next-on x y s e f ∙ onto-next x (y ∷ s) ih)

-- docs/RULES.md, "Texts": the first line of a text, and the lines after it, by its first LF
pub lines_next : (s : List ℕ) → 0 < length s → lines s ≡ take (line_len s) s ∷ lines (drop (line_step s) s)
lines_next [] h = absurd (let z : ◌≡◌ {A = ℕ} 0 1 = omega arith in omega arith)
lines_next (x ∷ []) h = by (eqb x 10) refl
  where
    by : (t : Bool) → eqb x 10 ≡ t → Next (x ∷ [])
    by true e = next-lf x [] e
    by false e = next_one x e
lines_next (x ∷ y ∷ s) h = by (eqb x 10) refl (eqb y 10) refl (lines_next (y ∷ s) (omega arith))
  where
    by : (t : Bool) → eqb x 10 ≡ t → (u : Bool) → eqb y 10 ≡ u → Next (y ∷ s) → Next (x ∷ y ∷ s)
    by true e u f ih = next-lf x (y ∷ s) e
    by false e true f ih = next-two x y s e f
    by false e false f ih = next_more x y s e f ih

-- ---- at the end of the text, or past it
pub len-past : (s : List ℕ) (at : ℕ) → length s ≤ at → (line_len (drop at s) ≡ 0) × (line_step (drop at s) ≡ 0)
unfolding line_len line_step cr_before index_of seek
len-past s at h = (rw (left-none s at h), rw (left-none s at h))

-- ---- by the place of the first LF
module _ (r : List ℕ) where
  -- no LF
  pub len-none : length r ≤ index_of 10 r → (line_len r ≡ index_of 10 r) × (line_step r ≡ index_of 10 r)
  unfolding line_len line_step cr_before
  len-none h = (rw (le-ltb _ _ h), rw (le-ltb _ _ h))

  -- LF at once
  pub len-empty : index_of 10 r < length r → index_of 10 r ≤ 0 → (line_len r ≡ index_of 10 r) × (line_step r ≡ index_of 10 r + 1)
  unfolding line_len line_step cr_before
  len-empty h k = (rw (lt-ltb _ _ h, le-ltb _ _ k), rw (lt-ltb _ _ h))

  -- a CR just before LF is dropped
  pub len-cr : index_of 10 r < length r → 0 < index_of 10 r → get_or r (index_of 10 r - 1) 0 ≡ 13
      → (line_len r ≡ index_of 10 r - 1) × (line_step r ≡ index_of 10 r + 1)
  unfolding line_len line_step cr_before
  len-cr h k e = (rw (lt-ltb _ _ h, lt-ltb _ _ k, eq-eqb _ _ e), rw (lt-ltb _ _ h))

  -- any other byte there is the line's
  pub len-lf : index_of 10 r < length r → 0 < index_of 10 r → (get_or r (index_of 10 r - 1) 0 ≡ 13 → ⊥)
      → (line_len r ≡ index_of 10 r) × (line_step r ≡ index_of 10 r + 1)
  unfolding line_len line_step cr_before
  len-lf h k e = (rw (lt-ltb _ _ h, lt-ltb _ _ k, ne_eqb _ _ e), rw (lt-ltb _ _ h))

-- ---- the line at a place
pub record Bounds (s : List ℕ) (at : ℕ) : Type 0 where
  pub len : at + line_len (drop at s) ≤ length s
  pub next : at + line_step (drop at s) ≤ length s
  pub more : 0 < line_step (drop at s)

end-le : (t : Bool) (n : ℕ) → end_by t n ≤ n
end-le true n = omega arith
end-le false n = omega arith

-- the line and what ends it are part of the text, and a text that is not at its end has a line
pub line-bounds : (s : List ℕ) (at : ℕ) → at < length s → Bounds s at
unfolding line_len line_step
line-bounds s at h =
    let r = drop at s in
    let b = length-drop at s in
    let i = index-le 10 r in
    by r (omega arith) (omega arith)
  where
    pk : (n m : ℕ) → n ≤ m → 0 < m → (pick (ltb n m) (n + 1) n ≤ m) × (0 < pick (ltb n m) (n + 1) n)
    pk n m p q = go (ltb n m) refl
      where
        go : (t : Bool) → ltb n m ≡ t → (pick t (n + 1) n ≤ m) × (0 < pick t (n + 1) n)
        go true e = omega (arith, ltb-true n m e)
        go false e = omega (arith, ltb-false n m e)

    by : (r : List ℕ) → 0 < length (drop at s) → length (drop at s) ≤ length s - at → Bounds s at
    by r p q =
        let i = index-le 10 (drop at s) in
        let k = pk (index_of 10 (drop at s)) (length (drop at s)) i p in
        record {
          len = omega (arith, end-le (cr_before (drop at s) (index_of 10 (drop at s))) (index_of 10 (drop at s)));
          next = omega
              (arith, k);
          more = k.1;
        }

-- the same at a place: what `line_at` tells is a line of the text, and where the others begin
pub lines_at : (s : List ℕ) (at : ℕ) → at < length s
    → lines (drop at s) ≡ take (line_len (drop at s)) (drop at s) ∷ lines (drop (at + line_step (drop at s)) s)
lines_at s at h = lines_next (drop at s) (omega (arith, length-drop at s)) ∙ rw drop-drop
