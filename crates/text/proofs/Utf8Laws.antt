-- UTF-8: the table's rows on ranges of first bytes, by computing; and a sequence by its parts. Assumes nothing.
use Rattle.std.specs.Prelude.{Some, None}
use mathlib.Core.Path.{◌≡◌, refl, ap, ◌∙◌}
use mathlib.Core.Bool.{Bool, true, false, false≢true}
use mathlib.Core.List.{List, [], ◌∷◌}
use Prim.Native.Nat.{ℕ, zero, suc, ◌+◌, ◌-◌, ◌≤◌, ◌<◌, suc-le-suc, zero-le}
use native.Mathlib.Omega.{arith}
use native.Mathlib.Nat.{le_of_suc-le-suc, not-suc-le-zero}
use borrow.Author.Tests.{leb-true, leb-false, eq-eqb, ne_eqb}
use lib.Dec.{T, eqb, eqb→eq, leb, leb→le}
use lib.ListN.{length, get_or, drop, length-drop}
use Rattle.refusal.specs.Pick.{both, pick, within}
use Rattle.text.specs.Scan.{scan}
use Rattle.text.specs.Ranges.{Range, ◌to◌, in_range}
use Rattle.text.specs.Utf8.{Follow, none, these, tail, followers, follow_in, covers, after, seq_len}
use Rattle.text.specs.Steps.{sequence_of, step_at, Went}
use Rattle.text.proofs.Laws.{scan-next, scan-stop, left-next, every, on-range, both_left, both_right, both_yes, both-no, both-assoc}

-- ---- equal by a test
abbrev range_eq : Range → Range → Bool
range_eq (a to b) (c to d) = both (eqb a c) (eqb b d)

abbrev ranges_eq : List Range → List Range → Bool
ranges_eq [] [] = true
ranges_eq [] (r ∷ rs) = false
ranges_eq (r ∷ rs) [] = false
ranges_eq (r ∷ rs) (q ∷ qs) = both (range_eq r q) (ranges_eq rs qs)

abbrev pub follow_eq : Follow → Follow → Bool
follow_eq none none = true
follow_eq none (these rs) = false
follow_eq (these rs) none = false
follow_eq (these rs) (these qs) = ranges_eq rs qs

range-is : (r q : Range) → T (range_eq r q) → r ≡ q
range-is (a to b) (c to d) t =
    let p = eqb→eq a c (both_left (eqb a c) (eqb b d) t) in
    let q = eqb→eq b d (both_right (eqb a c) (eqb b d) t) in
    cc (p, q)

ranges-are : (rs qs : List Range) → T (ranges_eq rs qs) → rs ≡ qs
ranges-are [] [] t = refl
ranges-are [] (r ∷ rs) t = absurd t
ranges-are (r ∷ rs) [] t = absurd t
ranges-are (r ∷ rs) (q ∷ qs) t =
    let h = range-is r q (both_left (range_eq r q) (ranges_eq rs qs) t) in
    let g = ranges-are rs qs (both_right (range_eq r q) (ranges_eq rs qs) t) in
    cc (h, g)

follow-is : (f g : Follow) → T (follow_eq f g) → f ≡ g
follow-is none none t = refl
follow-is none (these rs) t = absurd t
follow-is (these rs) none t = absurd t
follow-is (these rs) (these qs) t = ap these (ranges-are rs qs t)

-- ---- the first bytes from lo, n of them, each have what v says: computed
leads-by : (v : ℕ → Follow) (lo n : ℕ) → T (every (λ (k : ℕ). follow_eq (followers k) (v k)) lo n) → (a : ℕ) → lo ≤ a → a < lo + n
    → followers a ≡ v a
leads-by v lo n t a h k = follow-is (followers a) (v a) (on-range (λ (k : ℕ). follow_eq (followers k) (v k)) lo n t a h k)

pub leads : (v : Follow) (lo n : ℕ) → T (every (λ (k : ℕ). follow_eq (followers k) v) lo n)
    → (a : ℕ) → lo ≤ a → a < lo + n → followers a ≡ v
leads v = leads-by (λ (k : ℕ). v)

-- so many bytes more, the first of them from lo to hi
abbrev tails : ℕ → List Range
tails zero = []
tails (suc n) = tail ∷ tails n

unfoldable pub ranges : ℕ → ℕ → ℕ → Follow
ranges zero lo hi = these []
ranges (suc n) lo hi = these (lo to hi ∷ tails n)

-- ---- a sequence by its bytes
pub seq-2 : (a b lo hi : ℕ) (s : List ℕ) → followers a ≡ ranges 1 lo hi → seq_len (a ∷ b ∷ s) ≡ pick (within lo hi b) 2 0
unfolding seq_len after covers ranges
seq-2 a b lo hi s e = rw e (simp both_yes)

pub seq-3 : (a b c lo hi : ℕ) (s : List ℕ) → followers a ≡ ranges 2 lo hi
    → seq_len (a ∷ b ∷ c ∷ s) ≡ pick (both (within lo hi b) (within 0x80 0xBF c)) 3 0
unfolding seq_len after covers ranges
seq-3 a b c lo hi s e = rw e (simp both_yes)

pub seq-4 : (a b c d lo hi : ℕ) (s : List ℕ) → followers a ≡ ranges 3 lo hi
    → seq_len (a ∷ b ∷ c ∷ d ∷ s) ≡ pick (both (within lo hi b) (both (within 0x80 0xBF c) (within 0x80 0xBF d))) 4 0
unfolding seq_len after covers ranges
seq-4 a b c d lo hi s e = rw e (simp both_yes)

pub seq-ascii : (a : ℕ) (s : List ℕ) → a < 0x80 → seq_len (a ∷ s) ≡ 1
unfolding followers follow_in seq_len after covers
seq-ascii a s h = rw (leads (these []) 0 128 tt a (omega arith) (omega arith))

-- ---- the same, by the tests of the code
pub two_is : (a b : ℕ) (s : List ℕ) → 0x80 ≤ a → a < 0xE0 → seq_len (a ∷ b ∷ s) ≡ pick (both (leb 0xC2 a) (within 0x80 0xBF b)) 2 0
unfolding followers follow_in ranges seq_len after
two_is a b s h k = by (leb 0xC2 a) refl
  where
    by : (m : Bool) → leb 0xC2 a ≡ m → seq_len (a ∷ b ∷ s) ≡ pick (both m (within 0x80 0xBF b)) 2 0
    by true e = seq-2 a b 0x80 0xBF s (leads (ranges 1 0x80 0xBF) 0xC2 30 tt a (leb-true 0xC2 a e) k)
    by false e = rw (leads none 0x80 66 tt a h (leb-false 0xC2 a e))

pub three-is : (a b c lo hi : ℕ) (s : List ℕ) → 0xE0 ≤ a → a < 0xF0 → lo ≡ pick (eqb a 0xE0) 0xA0 0x80 → hi ≡ pick (eqb a 0xED) 0x9F 0xBF
    → seq_len (a ∷ b ∷ c ∷ s) ≡ pick (both (within lo hi b) (within 0x80 0xBF c)) 3 0
unfolding followers follow_in ranges
three-is a b c lo hi s h k p q =
    let v : ℕ → Follow = λ x. ranges 2 (pick (eqb x 0xE0) 0xA0 0x80) (pick (eqb x 0xED) 0x9F 0xBF) in
    seq-3 a b c lo hi s (rw (p, q) (leads-by v 0xE0 16 tt a h k))

pub four_is : (a b c d lo hi : ℕ) (s : List ℕ) → 0xF0 ≤ a → a < 0x100 → lo ≡ pick (eqb a 0xF0) 0x90 0x80 → hi ≡ pick (eqb a 0xF4) 0x8F 0xBF
    → seq_len (a ∷ b ∷ c ∷ d ∷ s)
    ≡ pick (both (both (both (both (leb a 0xF4) (leb lo b)) (leb b hi)) (within 0x80 0xBF c)) (within 0x80 0xBF d)) 4 0
unfolding followers follow_in ranges seq_len after
four_is a b c d lo hi s h k p q = by (leb a 0xF4) refl
  where
    v : ℕ → Follow
    v x = ranges 3 (pick (eqb x 0xF0) 0x90 0x80) (pick (eqb x 0xF4) 0x8F 0xBF)

    by : (m : Bool) → leb a 0xF4 ≡ m
        → seq_len (a ∷ b ∷ c ∷ d ∷ s)
        ≡ pick (both (both (both (both m (leb lo b)) (leb b hi)) (within 0x80 0xBF c)) (within 0x80 0xBF d)) 4 0
    by true e = seq-4 a b c d lo hi s (rw (p, q) (leads-by v 0xF0 5 tt a h (omega (arith, leb-true)))) ∙ simp both-assoc
    by false e = rw (leads none 0xF5 11 tt a (leb-false a 0xF4 e) k)

-- ---- the step at a place, by its bytes
module _ (s : List ℕ) (at : ℕ) where
  left-2 : at + 2 ≤ length s → drop at s ≡ get_or s at 0 ∷ get_or s (at + 1) 0 ∷ drop (at + 2) s
  left-2 h =
      let p : at + 1 + 1 ≡ at + 2 = omega arith in
      rw (left-next s at (omega arith), left-next s (at + 1) (omega arith), p)

  left-3 : at + 3 ≤ length s → drop at s ≡ get_or s at 0 ∷ get_or s (at + 1) 0 ∷ get_or s (at + 2) 0 ∷ drop (at + 3) s
  left-3 h =
      let p : at + 2 + 1 ≡ at + 3 = omega arith in
      rw (left-2 (omega arith), left-next s (at + 2) (omega arith), p)

  left-4 : at + 4 ≤ length s
      → drop at s ≡ get_or s at 0 ∷ get_or s (at + 1) 0 ∷ get_or s (at + 2) 0 ∷ get_or s (at + 3) 0 ∷ drop (at + 4) s
  left-4 h =
      let p : at + 3 + 1 ≡ at + 4 = omega arith in
      rw (left-3 (omega arith), left-next s (at + 3) (omega arith), p)

  pub step-1 : at < length s → get_or s at 0 < 0x80 → Some (at + 1) ≡ step_at s at
  unfolding step_at sequence_of
  step-1 h k = rw (left-next s at h, seq-ascii (get_or s at 0) (drop (at + 1) s) k)

  pub step-2 : (r b : Bool) → at + 2 ≤ length s → ((t : List ℕ) → seq_len (get_or s at 0 ∷ get_or s (at + 1) 0 ∷ t) ≡ pick r 2 0) → r ≡ b
      → sequence_of at (pick b 2 0) ≡ step_at s at
  unfolding step_at
  step-2 r b h f e = rw (left-2 h, f, e)

  pub step-3 : (r b : Bool) → at + 3 ≤ length s
      → ((t : List ℕ) → seq_len (get_or s at 0 ∷ get_or s (at + 1) 0 ∷ get_or s (at + 2) 0 ∷ t) ≡ pick r 3 0) → r ≡ b
      → sequence_of at (pick b 3 0) ≡ step_at s at
  unfolding step_at
  step-3 r b h f e = rw (left-3 h, f, e)

  pub step-4 : (r b : Bool) → at + 4 ≤ length s
      → ((t : List ℕ) → seq_len (get_or s at 0 ∷ get_or s (at + 1) 0 ∷ get_or s (at + 2) 0 ∷ get_or s (at + 3) 0 ∷ t) ≡ pick r 4 0) → r ≡ b
      → sequence_of at (pick b 4 0) ≡ step_at s at
  unfolding step_at
  step-4 r b h f e = rw (left-4 h, f, e)

-- ---- too few bytes are left
-- at least n bytes more are asked for
abbrev asks : ℕ → Follow → Bool
asks n none = true
asks n (these rs) = leb n (length rs)

covers-short : (rs : List Range) (s : List ℕ) → length s < length rs → covers rs s ≡ false
unfolding covers
covers-short [] s h = absurd (not-suc-le-zero h)
covers-short (r ∷ rs) [] h = refl
covers-short (r ∷ rs) (x ∷ s) h = rw (covers-short rs s (le_of_suc-le-suc h)) (both-no (in_range r x))

after-short : (f : Follow) (n : ℕ) (s : List ℕ) → T (asks n f) → length s < n → after f s ≡ 0
unfolding after
after-short none n s t h = refl
after-short (these rs) n s t h = rw (covers-short rs s (omega (arith, leb→le n (length rs) t)))

step-short : (lo k n : ℕ) → T (every (λ (a : ℕ). asks n (followers a)) lo k) → (s : List ℕ) (at : ℕ) → at < length s
    → lo ≤ get_or s at 0 → get_or s at 0 < lo + k → length s - at ≤ n → None ≡ step_at s at
unfolding step_at sequence_of seq_len
step-short lo k n t s at h p q l =
    let f = on-range (λ (a : ℕ). asks n (followers a)) lo k t (get_or s at 0) p q in
    let few : length (drop (at + 1) s) < n = simp length-drop (omega arith) in
    rw (left-next s at h, after-short (followers (get_or s at 0)) n (drop (at + 1) s) f few)

module _ (s : List ℕ) (at : ℕ) (h : at < length s) where
  pub short-2 : 0x80 ≤ get_or s at 0 → get_or s at 0 < 0xE0 → length s - at < 2 → None ≡ step_at s at
  unfolding followers follow_in
  short-2 p q l = step-short 0x80 96 1 tt s at h p q (omega arith)

  pub short-3 : 0xE0 ≤ get_or s at 0 → get_or s at 0 < 0xF0 → length s - at < 3 → None ≡ step_at s at
  unfolding followers follow_in
  short-3 p q l = step-short 0xE0 16 2 tt s at h p q (omega arith)

  pub short-4 : 0xF0 ≤ get_or s at 0 → get_or s at 0 < 0x100 → length s - at < 4 → None ≡ step_at s at
  unfolding followers follow_in
  short-4 p q l = step-short 0xF0 16 3 tt s at h p q (omega arith)

-- ---- a sequence is part of the list
covers-long : (rs : List Range) (s : List ℕ) → covers rs s ≡ true → length rs ≤ length s
unfolding covers
covers-long [] s e = zero-le
covers-long (r ∷ rs) [] e = absurd (false≢true e)
covers-long (r ∷ rs) (x ∷ s) e = suc-le-suc (covers-long rs s (both_true (in_range r x) _ e))
  where
    both_true : (a b : Bool) → both a b ≡ true → b ≡ true
    both_true true b e = e
    both_true false b e = absurd (false≢true e)

after-long : (f : Follow) (s : List ℕ) → after f s ≤ suc (length s)
unfolding after
after-long none s = zero-le
after-long (these rs) s = by (covers rs s) refl
  where
    by : (b : Bool) → covers rs s ≡ b → pick b (suc (length rs)) zero ≤ suc (length s)
    by true e = suc-le-suc (covers-long rs s e)
    by false e = zero-le

pub seq-long : (s : List ℕ) → seq_len s ≤ length s
unfolding seq_len
seq-long [] = zero-le
seq-long (a ∷ s) = after-long (followers a) s

-- ---- what a step's answer says of the whole
pub went : (s : List ℕ) (at n : ℕ) → at < length s → step_at s at ≡ Some n → Went s at n
unfolding step_at sequence_of
went s at n h e = by (seq_len (drop at s)) refl (omega (arith, seq-long (drop at s), length-drop at s)) e
  where
    by : (k : ℕ) → seq_len (drop at s) ≡ k → k ≤ length s - at → sequence_of at k ≡ Some n → Went s at n
    by zero q b e = absurd (let z : ◌≡◌ {A = ℕ} 0 1 = cc in omega arith)
    by (suc k) q b e =
        let p : at + suc k ≡ n = cc in
        let w = scan-next seq_len s at k q (omega arith) in
        rw (← p) (record { more = omega arith; inside = omega arith; same = omega (arith, w) })

-- no step: the text is well formed no further
pub stuck : (s : List ℕ) (at : ℕ) → step_at s at ≡ None → scan seq_len 0 (drop at s) ≡ 0
unfolding step_at sequence_of
stuck s at e = by (seq_len (drop at s)) refl e
  where
    by : (k : ℕ) → seq_len (drop at s) ≡ k → sequence_of at k ≡ None → scan seq_len 0 (drop at s) ≡ 0
    by zero q e = scan-stop seq_len s at q
    by (suc k) q e = absurd (let z : ◌≡◌ {A = ℕ} 0 1 = cc in omega arith)

-- ---- an end of a range that another stands for at one byte
pub at-byte : {a n x : ℕ} (y : ℕ) {v : ℕ} → v ≡ x → a ≡ n → v ≡ pick (eqb a n) x y
at-byte y e h = rw (e, eq-eqb _ _ h)

pub at-others : {a n : ℕ} (x : ℕ) {y v : ℕ} → v ≡ y → (a ≡ n → ⊥) → v ≡ pick (eqb a n) x y
at-others x e h = rw (e, ne_eqb _ _ h)
