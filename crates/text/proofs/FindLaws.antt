-- Searching and comparing for equality, as what is left of a text answers. Assumes nothing.
use mathlib.Core.Path.{◌≡◌, refl}
use mathlib.Core.Bool.{Bool, true, false, false≢true}
use mathlib.Core.List.{List, [], ◌∷◌}
use Prim.Native.Nat.{ℕ, suc, ◌+◌, ◌≤◌, ◌<◌}
use native.Mathlib.Omega.{arith}
use lib.Dec.{eqb}
use lib.ListN.{length, drop, get_or}
use borrow.Author.Tests.{ne_eqb, eq-eqb, eqb-true}
use Rattle.refusal.specs.Pick.{pick}
use Rattle.text.specs.Find.{seek, begins, same, index_of}
use Rattle.text.proofs.Laws.{left-next, left-none, both_yes, both_one, both-two, both-no}

-- ---- seek: the first place
module _ (p : List ℕ → Bool) where
  -- the place is here
  pub seek_hit : (s : List ℕ) (i : ℕ) → i < length s → p (drop i s) ≡ true → seek p (drop i s) ≡ 0
  unfolding seek
  seek_hit s i h e =
      let e' = rw (left-next s i h) at e in
      rw (left-next s i h, e')

  -- it is further on
  pub seek-miss : (s : List ℕ) (i : ℕ) → i < length s → p (drop i s) ≡ false → seek p (drop i s) ≡ suc (seek p (drop (i + 1) s))
  unfolding seek
  seek-miss s i h e =
      let e' = rw (left-next s i h) at e in
      rw (left-next s i h, e')

  -- there is none
  pub seek-end : (s : List ℕ) (i : ℕ) → length s ≤ i → seek p (drop i s) ≡ 0
  unfolding seek
  seek-end s i h = rw (left-none s i h)

-- ---- a byte
-- the place is within the text, or at its end
pub index-le : (b : ℕ) (s : List ℕ) → index_of b s ≤ length s
unfolding index_of seek
index-le b [] = omega arith
index-le b (x ∷ s) = by (begins (b ∷ []) (x ∷ s)) (index-le b s)
  where
    by : (t : Bool) → seek (begins (b ∷ [])) s ≤ length s → pick t 0 (suc (seek (begins (b ∷ [])) s)) ≤ suc (length s)
    by true h = omega arith
    by false h = omega arith

-- by the first byte
pub index-cons : (b x : ℕ) (s : List ℕ) → index_of b (x ∷ s) ≡ pick (eqb x b) 0 (suc (index_of b s))
unfolding index_of seek begins
index-cons b x s = rw both_yes

-- ---- two bytes at a place
module _ (a b : ℕ) (s : List ℕ) (i : ℕ) where
  pub pair-here : i + 1 < length s → get_or s i 0 ≡ a → get_or s (i + 1) 0 ≡ b → begins (a ∷ b ∷ []) (drop i s) ≡ true
  unfolding begins
  pair-here h e f = rw (left-next s i (omega arith), left-next s (i + 1) h, eq-eqb _ _ e, eq-eqb _ _ f)

  pub pair-first : i < length s → (get_or s i 0 ≡ a → ⊥) → begins (a ∷ b ∷ []) (drop i s) ≡ false
  unfolding begins
  pair-first h d = rw (left-next s i h, ne_eqb _ _ d)

  pub pair-last : i < length s → length s ≤ i + 1 → begins (a ∷ b ∷ []) (drop i s) ≡ false
  unfolding begins
  pair-last h k = rw (left-next s i h, left-none s (i + 1) k) (both-no (eqb (get_or s i 0) a))

  pub pair-second : i + 1 < length s → (get_or s (i + 1) 0 ≡ b → ⊥) → begins (a ∷ b ∷ []) (drop i s) ≡ false
  unfolding begins
  pair-second h d = rw (left-next s i (omega arith), left-next s (i + 1) h, ne_eqb _ _ d) (both-no (eqb (get_or s i 0) a))

-- `same` is equality
pub same-is : (w s : List ℕ) → same w s ≡ true → s ≡ w
unfolding same
same-is [] [] e = refl
same-is [] (x ∷ s) e = absurd (false≢true e)
same-is (c ∷ w) [] e = absurd (false≢true e)
same-is (c ∷ w) (x ∷ s) e =
    let p = eqb-true x c (both_one (eqb x c) (same w s) e) in
    let q = same-is w s (both-two (eqb x c) (same w s) e) in
    cc (p, q)

pub same_self : (s : List ℕ) → same s s ≡ true
unfolding same
same_self [] = refl
same_self (x ∷ s) = rw (eq-eqb x x refl, same_self s)
