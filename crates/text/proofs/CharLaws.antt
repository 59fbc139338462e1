-- White_Space and characters. Assumes nothing.
use Rattle.std.specs.Prelude.{Some, None}
use mathlib.Core.Path.{◌≡◌, refl, ap, ◌∙◌, sym}
use mathlib.Core.Bool.{Bool, true, false}
use mathlib.Core.List.{List, [], ◌∷◌}
use Prim.Native.Nat.{ℕ, zero, suc, ◌+◌, ◌-◌, ◌*◌, ◌%◌, ◌≤◌, ◌<◌}
use native.Mathlib.Omega.{arith}
use native.Mathlib.Nat.{add-zero, suc-add, not-suc-le-zero, le_of_suc-le-suc}
use lib.ListN.{length, get_or, drop, length-drop}
use lib.Seq.{get_or-drop, drop-drop}
use lib.Dec.{T, eqb, eqb-suc-zero, leb, leb→le}
use borrow.Author.Tests.{leb-true, le-leb}
use Rattle.refusal.specs.Pick.{pick, both, within}
use Rattle.text.specs.Ranges.{Range, ◌to◌, in_range, in_some}
use Rattle.text.specs.Utf8.{seq_len}
use Rattle.text.specs.Steps.{step_at, sequence_of}
use Rattle.text.specs.Chars.{more, code_by, code_of, more_by, Char, char, chars_from, chars}
use Rattle.text.specs.White.{whites, is_white}
use Rattle.text.specs.Trim.{start_len, end_len, trim_start, trim_end}
use Rattle.text.proofs.Utf8Laws.{seq-long}
use Rattle.text.proofs.Laws.{both_one, both-two, both_left, both_right, left-next, left-none}

-- ---- a range inside one of a table's ranges
abbrev pub inside : ℕ → ℕ → Range → Bool
inside lo hi (a to b) = both (leb a lo) (leb hi b)

abbrev pub cover : ℕ → ℕ → List Range → Bool
cover lo hi [] = false
cover lo hi (r ∷ rs) = pick (inside lo hi r) true (cover lo hi rs)

inside-in : (lo hi : ℕ) (r : Range) (c : ℕ) → T (inside lo hi r) → lo ≤ c → c ≤ hi → in_range r c ≡ true
inside-in lo hi (a to b) c t h k =
    let p = leb→le a lo (both_left (leb a lo) (leb hi b) t) in
    let q = leb→le hi b (both_right (leb a lo) (leb hi b) t) in
    rw (le-leb a c (omega arith), le-leb c b (omega arith))

pub cover-in : (lo hi : ℕ) (rs : List Range) → T (cover lo hi rs) → (c : ℕ) → lo ≤ c → c ≤ hi → true ≡ in_some rs c
unfolding in_some
cover-in lo hi [] t c h k = absurd t
cover-in lo hi (r ∷ rs) t c h k = by (inside lo hi r) refl t (λ u. cover-in lo hi rs u c h k)
  where
    by : (u : Bool) → inside lo hi r ≡ u → T (pick u true (cover lo hi rs)) → (T (cover lo hi rs) → true ≡ in_some rs c)
        → true ≡ pick (in_range r c) true (in_some rs c)
    by true e t ih = rw (inside-in lo hi r c (rw e tt) h k)
    by false e t ih = either (in_range r c) (ih t)
      where
        either : (v : Bool) → true ≡ in_some rs c → true ≡ pick v true (in_some rs c)
        either true i = refl
        either false i = i

-- what a line of the list takes is White_Space
pub white-in : (lo hi c : ℕ) {t : Bool} → T (cover lo hi whites) → t ≡ within lo hi c → t ≡ true → true ≡ is_white c
unfolding is_white
white-in lo hi c u e y =
    let i : both (leb lo c) (leb c hi) ≡ true = sym e ∙ y in
    let p = leb-true lo c (both_one (leb lo c) (leb c hi) i) in
    let q = leb-true c hi (both-two (leb lo c) (leb c hi) i) in
    cover-in lo hi whites u c p q

-- a line of the list that does not take c
pub missed : {t u : Bool} → t ≡ u → t ≡ false → u ≡ false
missed e n = sym e ∙ n

pub only : {t u : Bool} → t ≡ u → t ≡ pick u true false
only {u = true} e = e
only {u = false} e = e

-- ---- the sequence's length, from a step's answer
pub record Long (s : List ℕ) (at n : ℕ) : Type 0 where
  pub later : at < n
  pub inside : n ≤ length s
  pub long : seq_len (drop at s) ≡ n - at

pub long : (s : List ℕ) (at n : ℕ) → at < length s → step_at s at ≡ Some n → Long s at n
unfolding step_at sequence_of
long s at n h e = by (seq_len (drop at s)) refl (omega (arith, seq-long (drop at s), length-drop at s)) e
  where
    by : (k : ℕ) → seq_len (drop at s) ≡ k → k ≤ length s - at → sequence_of at k ≡ Some n → Long s at n
    by zero q b e = absurd (let z : ◌≡◌ {A = ℕ} 0 1 = cc in omega arith)
    by (suc k) q b e = let p : at + suc k ≡ n = cc in record { later = omega arith; inside = omega arith; long = omega arith }

pub short : (s : List ℕ) (at : ℕ) → step_at s at ≡ None → seq_len (drop at s) ≡ 0
unfolding step_at sequence_of
short s at e = by (seq_len (drop at s)) refl e
  where
    by : (k : ℕ) → seq_len (drop at s) ≡ k → sequence_of at k ≡ None → seq_len (drop at s) ≡ 0
    by zero q e = q
    by (suc k) q e = absurd (let z : ◌≡◌ {A = ℕ} 0 1 = cc in omega arith)

-- ---- the code point, by the sequence's length
pub code-0 : (s : List ℕ) (at : ℕ) → seq_len (drop at s) ≡ 0 → code_of (drop at s) ≡ 0x110000
unfolding code_of code_by
code-0 s at e = rw e

pub code-1 : (s : List ℕ) (at : ℕ) → seq_len (drop at s) ≡ 1 → code_of (drop at s) ≡ get_or s at 0 % 128
unfolding code_of code_by
code-1 s at e = rw e (simp (get_or-drop, add-zero))

pub code-2 : (s : List ℕ) (at : ℕ) → seq_len (drop at s) ≡ 2 → code_of (drop at s) ≡ get_or s at 0 % 32 * 64 + get_or s (at + 1) 0 % 64
unfolding code_of code_by
code-2 s at e = rw e (simp (get_or-drop, add-zero))

pub code-3 : (s : List ℕ) (at : ℕ) → seq_len (drop at s) ≡ 3
    → code_of (drop at s) ≡ (get_or s at 0 % 16 * 64 + get_or s (at + 1) 0 % 64) * 64 + get_or s (at + 2) 0 % 64
unfolding code_of code_by
code-3 s at e = rw e (simp (get_or-drop, add-zero))

pub code-4 : (s : List ℕ) (at : ℕ) (k : ℕ) → seq_len (drop at s) ≡ suc (suc (suc (suc k)))
    → code_of (drop at s)
    ≡ ((get_or s at 0 % 8 * 64 + get_or s (at + 1) 0 % 64) * 64 + get_or s (at + 2) 0 % 64) * 64 + get_or s (at + 3) 0 % 64
unfolding code_of code_by
code-4 s at k e = rw e (simp (get_or-drop, add-zero))

pub more_of : (s : List ℕ) (at k : ℕ) → seq_len (drop at s) ≡ suc k → more (drop at s) ≡ k
unfolding more more_by
more_of s at k e = rw e

pub more-0 : (s : List ℕ) (at : ℕ) → seq_len (drop at s) ≡ 0 → more (drop at s) ≡ 0
unfolding more more_by
more-0 s at e = rw e

-- ---- characters at a place
skip : (k : ℕ) (s : List ℕ) → chars_from k s ≡ chars_from 0 (drop k s)
unfolding chars_from
skip zero s = refl
skip (suc k) [] = refl
skip (suc k) (x ∷ s) = skip k s

-- the character at a place is part of the text
pub more-long : (s : List ℕ) (at : ℕ) → at < length s → at + 1 + more (drop at s) ≤ length s
unfolding more more_by
more-long s at h = by (seq_len (drop at s)) (omega (arith, seq-long (drop at s), length-drop at s))
  where
    by : (k : ℕ) → k ≤ length s - at → at + 1 + more_by k ≤ length s
    by zero b = omega arith
    by (suc k) b = omega arith

-- the characters left at a place: the one there, and those left after it
pub chars-next : (s : List ℕ) (at : ℕ) → at < length s
    → chars (drop at s) ≡ char (code_of (drop at s)) (more (drop at s)) ∷ chars (drop (at + 1 + more (drop at s)) s)
unfolding chars chars_from
chars-next s at h =
    let m = more (drop at s) in
    let e = left-next s at h in
    let f : chars_from m (drop (at + 1) s) ≡ chars_from 0 (drop (at + 1 + m) s) = skip m (drop (at + 1) s) ∙ rw drop-drop in
    rw (← f) (rw e)

-- none at the end
pub chars-end : (s : List ℕ) (at : ℕ) → length s ≤ at → chars (drop at s) ≡ []
unfolding chars chars_from
chars-end s at h = rw (left-none s at h)

-- ---- a turn of a loop over characters: the character at a place, and whether it is White_Space
pub record Here (s : List ℕ) (at m : ℕ) (w : Bool) : Type 0 where
  pub inside : at + 1 + m ≤ length s
  pub next : m ≡ more (drop at s)
  pub test : is_white (code_of (drop at s)) ≡ w

pub turned : (s : List ℕ) (at : ℕ) {c m : ℕ} {w : Bool} → at < length s
    → (c ≡ code_of (drop at s)) × (m ≡ more (drop at s)) → w ≡ is_white c → Here s at m w
turned s at h g e =
    let b = more-long s at h in
    record { inside = omega (arith, b, g.1); next = g.1; test = ap is_white (sym g.0) ∙ sym e }

-- ---- White_Space at the front
module _ (s : List ℕ) (at : ℕ) (h : at < length s) where
  pub start-white : is_white (code_of (drop at s)) ≡ true
      → start_len (chars (drop at s)) ≡ suc (more (drop at s)) + start_len (chars (drop (at + 1 + more (drop at s)) s))
  unfolding start_len
  start-white e = rw (chars-next s at h, e)

  pub start-other : is_white (code_of (drop at s)) ≡ false → start_len (chars (drop at s)) ≡ 0
  unfolding start_len
  start-other e = rw (chars-next s at h, e)

pub start-end : (s : List ℕ) (at : ℕ) → length s ≤ at → start_len (chars (drop at s)) ≡ 0
unfolding start_len
start-end s at h = rw (chars-end s at h)

-- ---- White_Space at the end: `last` if all that is left is White_Space, else where the last other character ends
abbrev pub ends : ℕ → ℕ → ℕ → ℕ
ends last at zero = last
ends last at (suc k) = at + suc k

pub ends-start : (k : ℕ) → k ≡ ends 0 0 k
ends-start zero = refl
ends-start (suc k) = omega arith

ends-white : (last at m k : ℕ) → ends last at (pick (both true (eqb k 0)) 0 (suc m + k)) ≡ ends last (at + 1 + m) k
ends-white last at m zero = refl
ends-white last at m (suc k) = rw (eqb-suc-zero k, suc-add m (suc k)) (omega arith)

ends-other : (last at m k : ℕ) → ends last at (suc m + k) ≡ ends (at + 1 + m) (at + 1 + m) k
ends-other last at m zero = rw (suc-add m 0) (omega arith)
ends-other last at m (suc k) = rw (suc-add m (suc k)) (omega arith)

module _ (s : List ℕ) (last at : ℕ) (h : at < length s) where
  pub end-white : is_white (code_of (drop at s)) ≡ true
      → ends last at (end_len (chars (drop at s)))
      ≡ ends last (at + 1 + more (drop at s)) (end_len (chars (drop (at + 1 + more (drop at s)) s)))
  unfolding end_len
  end-white e = rw (chars-next s at h, e) (ends-white last at (more (drop at s)) (end_len (chars (drop (at + 1 + more (drop at s)) s))))

  pub end-other : is_white (code_of (drop at s)) ≡ false
      → ends last at (end_len (chars (drop at s)))
      ≡ ends (at + 1 + more (drop at s)) (at + 1 + more (drop at s)) (end_len (chars (drop (at + 1 + more (drop at s)) s)))
  unfolding end_len
  end-other e = rw (chars-next s at h, e) (ends-other last at (more (drop at s)) (end_len (chars (drop (at + 1 + more (drop at s)) s))))

pub end-end : (s : List ℕ) (last at : ℕ) → length s ≤ at → ends last at (end_len (chars (drop at s))) ≡ last
unfolding end_len
end-end s last at h = rw (chars-end s at h)

-- ---- what is trimmed is part of the text
unfoldable pub bytes_of : List Char → ℕ
bytes_of [] = 0
bytes_of (char c m ∷ cs) = suc m + bytes_of cs

end-bytes : (cs : List Char) → end_len cs ≤ bytes_of cs
unfolding end_len bytes_of
end-bytes [] = omega arith
end-bytes (char c m ∷ cs) = by (both (is_white c) (eqb (end_len cs) 0)) (end-bytes cs)
  where
    by : (t : Bool) → end_len cs ≤ bytes_of cs → pick t 0 (suc m + end_len cs) ≤ suc m + bytes_of cs
    by true h = omega arith
    by false h = omega arith

start-bytes : (cs : List Char) → start_len cs ≤ bytes_of cs
unfolding start_len bytes_of
start-bytes [] = omega arith
start-bytes (char c m ∷ cs) = by (is_white c) (start-bytes cs)
  where
    by : (t : Bool) → start_len cs ≤ bytes_of cs → pick t (suc m + start_len cs) 0 ≤ suc m + bytes_of cs
    by true h = omega arith
    by false h = omega arith

-- the characters take all the bytes
pub chars-bytes : (k : ℕ) (s : List ℕ) → k ≤ length s → k + bytes_of (chars_from k s) ≡ length s
unfolding chars_from bytes_of
chars-bytes zero [] h = refl
chars-bytes (suc k) [] h = absurd (not-suc-le-zero h)
chars-bytes (suc k) (x ∷ s) h = suc-add _ _ ∙ ap suc (chars-bytes k s (le_of_suc-le-suc h))
chars-bytes zero (x ∷ s) h =
    let m = more (x ∷ s) in
    let b : m ≤ length s = omega (arith, more-long (x ∷ s) 0 (omega arith)) in
    omega (arith, chars-bytes m s b)

-- what stays is part of the text
pub end-long : (s : List ℕ) → trim_end s ≤ length s
unfolding trim_end chars
end-long s = omega (arith, end-bytes (chars_from 0 s), chars-bytes 0 s (omega arith))

-- so is what goes
pub start-long : (s : List ℕ) → trim_start s ≤ length s
unfolding trim_start chars
start-long s = omega (arith, start-bytes (chars_from 0 s), chars-bytes 0 s (omega arith))
