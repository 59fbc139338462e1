-- A loop over a slice, as a recursion on what is left of the list. Assumes nothing.
use mathlib.Core.Path.{◌≡◌, refl, sym, ap, ◌∙◌}
use mathlib.Core.Bool.{Bool, true, false, false≢true}
use mathlib.Core.List.{List, [], ◌∷◌}
use Prim.Native.Nat.{ℕ, zero, suc, ◌+◌, ◌-◌, ◌≤◌, ◌<◌}
use native.Mathlib.Numerals.{add-one}
use native.Mathlib.Nat.{zero-add, add-zero, suc-add, le_of_suc-le-suc, not-suc-le-zero}
use native.Mathlib.Omega.{arith}
use lib.Dec.{T}
use lib.ListN.{length, get_or, take, drop, drop_of_length-le, length-drop}
use lib.Seq.{drop-cons, drop-drop, take_all}
use Rattle.refusal.specs.Pick.{both}
use Rattle.text.specs.Scan.{scan}

-- ---- the three laws of every loop that goes up over a slice
-- what is left at i is the element at i, and what is left at i + 1
pub left-next : (s : List ℕ) (i : ℕ) → i < length s → drop i s ≡ get_or s i 0 ∷ drop (i + 1) s
left-next s i h = rw (add-one, drop-cons s i 0)

-- nothing is left at the end
pub left-none : (s : List ℕ) (i : ℕ) → length s ≤ i → drop i s ≡ []
left-none s i h = drop_of_length-le s h

-- a part that goes to the end, `&s[i..]`, is what is left at i
pub left-part : (s : List ℕ) (i : ℕ) → take (length s - i) (drop i s) ≡ drop i s
left-part s i = take_all (length s - i) (drop i s) (simp length-drop (omega arith))

-- ---- scan: steps that take what f says
module _ (f : List ℕ → ℕ) where
  -- a step under way: its elements, then what is left
  pub scan-skip : (k : ℕ) (s : List ℕ) → k ≤ length s → scan f k s ≡ k + scan f 0 (drop k s)
  unfolding scan
  scan-skip zero s h = sym (zero-add _)
  scan-skip (suc k) [] h = absurd (not-suc-le-zero h)
  scan-skip (suc k) (x ∷ s) h = ap suc (scan-skip k s (le_of_suc-le-suc h)) ∙ sym (suc-add _ _)

  pub scan-cons : (s : List ℕ) (k : ℕ) → f s ≡ suc k → suc k ≤ length s → scan f 0 s ≡ suc k + scan f 0 (drop (suc k) s)
  unfolding scan
  scan-cons [] k e h = absurd (not-suc-le-zero h)
  scan-cons (x ∷ s) k e h = rw (e, scan) (ap suc (scan-skip k s (le_of_suc-le-suc h)) ∙ sym (suc-add _ _))

  pub scan-zero : (s : List ℕ) → f s ≡ 0 → scan f 0 s ≡ 0
  unfolding scan
  scan-zero [] e = refl
  scan-zero (x ∷ s) e = rw (e, scan)

  -- a step at a place
  pub scan-next : (s : List ℕ) (i k : ℕ) → f (drop i s) ≡ suc k → i + suc k ≤ length s
      → scan f 0 (drop i s) ≡ suc k + scan f 0 (drop (i + suc k) s)
  scan-next s i k e h = scan-cons (drop i s) k e (simp length-drop (omega arith))
      ∙ ap (λ (l : List ℕ). suc k + scan f 0 l) (drop-drop (suc k) i s)

  -- no step there
  pub scan-stop : (s : List ℕ) (i : ℕ) → f (drop i s) ≡ 0 → scan f 0 (drop i s) ≡ 0
  scan-stop s i e = scan-zero (drop i s) e

  -- nothing left
  pub scan-end : (s : List ℕ) (i : ℕ) → length s ≤ i → scan f 0 (drop i s) ≡ 0
  unfolding scan
  scan-end s i h = rw (left-none s i h)

-- ---- a test of every number of a range, computed once
abbrev pub every : (ℕ → Bool) → ℕ → ℕ → Bool
every p lo zero = true
every p lo (suc n) = both (p lo) (every p (suc lo) n)

pub both_left : (a b : Bool) → T (both a b) → T a
both_left true b t = tt
both_left false b t = t

pub both_right : (a b : Bool) → T (both a b) → T b
both_right true b t = t
both_right false b t = absurd t

pub both_one : (a b : Bool) → both a b ≡ true → a ≡ true
both_one true b e = refl
both_one false b e = e

pub both-two : (a b : Bool) → both a b ≡ true → b ≡ true
both-two true b e = e
both-two false b e = absurd (false≢true e)

pub both-and : (a b : Bool) → a ≡ true → b ≡ true → both a b ≡ true
both-and a b p q = rw (p, q)

pub both_yes : (t : Bool) → both t true ≡ t
both_yes true = refl
both_yes false = refl

pub both-no : (t : Bool) → both t false ≡ false
both-no true = refl
both-no false = refl

pub both-assoc : (a b c : Bool) → both (both a b) c ≡ both a (both b c)
both-assoc true b c = refl
both-assoc false b c = refl

from : (p : ℕ → Bool) (lo n k : ℕ) → T (every p lo n) → k < n → T (p (lo + k))
from p lo zero k t h = absurd (not-suc-le-zero h)
from p lo (suc n) zero t h = rw add-zero (both_left (p lo) _ t)
from p lo (suc n) (suc k) t h =
    let e : lo + suc k ≡ suc lo + k = omega arith in
    rw e (from p (suc lo) n k (both_right (p lo) _ t) (le_of_suc-le-suc h))

pub on-range : (p : ℕ → Bool) (lo n : ℕ) → T (every p lo n) → (a : ℕ) → lo ≤ a → a < lo + n → T (p a)
on-range p lo n t a h k =
    let e : lo + (a - lo) ≡ a = omega arith in
    rw e at (from p lo n (a - lo) t (omega arith))
