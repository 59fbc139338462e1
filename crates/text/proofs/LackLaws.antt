-- Bytes that do not occur in a text, and what is cut at the first that does. Assumes nothing.
use mathlib.Core.Path.{◌≡◌, refl, sym, ap, ◌∙◌}
use mathlib.Core.Bool.{Bool, true, false, false≢true}
use mathlib.Core.List.{List, [], ◌∷◌, ◌++◌}
use Prim.Native.Nat.{ℕ, zero, suc, ◌+◌, ◌<◌}
use native.Mathlib.Omega.{arith}
use native.Mathlib.Nat.{suc-add}
use lib.Dec.{eqb, ltb}
use lib.ListN.{length, take, drop}
use lib.Seq.{take_all}
use borrow.Author.Tests.{eqb-true, eq-eqb, ltb-true, ltb-false}
use Rattle.refusal.specs.Pick.{pick}
use Rattle.text.specs.Find.{seek, index_of}
use Rattle.text.proofs.FindLaws.{index-cons}
use Rattle.text.proofs.Laws.{both_one, both-two}
use Rattle.text.proofs.SplitLaws.{well, well-ascii}

-- b does not occur
unfoldable pub lacks : ℕ → List ℕ → Bool
lacks b [] = true
lacks b (x ∷ s) = pick (eqb x b) false (lacks b s)

module _ (b : ℕ) where
  pub lacks-head : (x : ℕ) (s : List ℕ) → lacks b (x ∷ s) ≡ true → eqb x b ≡ false
  unfolding lacks
  lacks-head x s e = by (eqb x b) refl e
    where
      by : (t : Bool) → eqb x b ≡ t → pick t false (lacks b s) ≡ true → eqb x b ≡ false
      by true q e = absurd (false≢true e)
      by false q e = q

  pub lacks-tail : (x : ℕ) (s : List ℕ) → lacks b (x ∷ s) ≡ true → lacks b s ≡ true
  unfolding lacks
  lacks-tail x s e = by (eqb x b) e
    where
      by : (t : Bool) → pick t false (lacks b s) ≡ true → lacks b s ≡ true
      by true e = absurd (false≢true e)
      by false e = e

  pub lacks-cons : (x : ℕ) (s : List ℕ) → eqb x b ≡ false → lacks b s ≡ true → lacks b (x ∷ s) ≡ true
  unfolding lacks
  lacks-cons x s e h = rw (e, h)

  pub lacks-take : (n : ℕ) (s : List ℕ) → lacks b s ≡ true → lacks b (take n s) ≡ true
  unfolding lacks
  lacks-take zero s e = refl
  lacks-take (suc n) [] e = refl
  lacks-take (suc n) (x ∷ s) e = lacks-cons x (take n s) (lacks-head x s e) (lacks-take n s (lacks-tail x s e))

  pub lacks-drop : (n : ℕ) (s : List ℕ) → lacks b s ≡ true → lacks b (drop n s) ≡ true
  unfolding lacks
  lacks-drop zero s e = e
  lacks-drop (suc n) [] e = refl
  lacks-drop (suc n) (x ∷ s) e = lacks-drop n s (lacks-tail x s e)

  pub lacks-append : (s t : List ℕ) → lacks b s ≡ true → lacks b t ≡ true → lacks b (s ++ t) ≡ true
  unfolding lacks
  lacks-append [] t e f = f
  lacks-append (x ∷ s) t e f = lacks-cons x (s ++ t) (lacks-head x s e) (lacks-append s t (lacks-tail x s e) f)

  pub index-none : (s : List ℕ) → lacks b s ≡ true → index_of b s ≡ length s
  unfolding index_of seek
  index-none [] e = refl
  index-none (x ∷ s) e = index-cons b x s ∙ rw (lacks-head x s e) (ap suc (index-none s (lacks-tail x s e)))

  pub index_at : (s t : List ℕ) → lacks b s ≡ true → index_of b (s ++ b ∷ t) ≡ length s
  index_at [] t e = index-cons b b t ∙ rw (eq-eqb b b refl)
  index_at (x ∷ s) t e = index-cons b x (s ++ b ∷ t) ∙ rw (lacks-head x s e) (ap suc (index_at s t (lacks-tail x s e)))

  pub until-lacks : (s : List ℕ) → lacks b (take (index_of b s) s) ≡ true
  unfolding lacks
  until-lacks [] = unfold index_of seek in refl
  until-lacks (x ∷ s) = rw (index-cons b x s) (by (eqb x b) refl (until-lacks s))
    where
      by : (t : Bool) → eqb x b ≡ t → lacks b (take (index_of b s) s) ≡ true → lacks b (take (pick t 0 (suc (index_of b s))) (x ∷ s)) ≡ true
      by true q ih = refl
      by false q ih = rw (q, ih)

  -- b stands where it is found
  pub index-split : (s : List ℕ) → index_of b s < length s → s ≡ take (index_of b s) s ++ b ∷ drop (index_of b s + 1) s
  index-split [] h = absurd (omega arith)
  index-split (x ∷ s) h = rw (index-cons b x s) (by (eqb x b) refl (index-split s) (rw (index-cons b x s) at h))
    where
      by : (t : Bool) → eqb x b ≡ t → (index_of b s < length s → s ≡ take (index_of b s) s ++ b ∷ drop (index_of b s + 1) s)
          → pick t 0 (suc (index_of b s)) < suc (length s)
          → ◌≡◌ {A = List ℕ} (x ∷ s) (take (pick t 0 (suc (index_of b s))) (x ∷ s) ++ b ∷ drop (pick t 0 (suc (index_of b s)) + 1) (x ∷ s))
      by true q ih h = rw (eqb-true x b q)
      by false q ih h = rw (suc-add (index_of b s) 1) (ap (λ (l : List ℕ). x ∷ l) (ih (omega arith)))

  module _ (small : b < 0x80) where
    pub well-until : (s : List ℕ) → well s ≡ true → well (take (index_of b s) s) ≡ true
    well-until s e = by (ltb (index_of b s) (length s)) refl
      where
        by : (t : Bool) → ltb (index_of b s) (length s) ≡ t → well (take (index_of b s) s) ≡ true
        by true q =
            let p = take (index_of b s) s in
            let r = drop (index_of b s + 1) s in
            both_one (well p) (well r) (sym (well-ascii p b r small) ∙ rw (← index-split s (ltb-true (index_of b s) (length s) q)) e)
        by false q = rw (take_all (index_of b s) s (ltb-false (index_of b s) (length s) q)) e

    pub well-past : (s : List ℕ) → index_of b s < length s → well s ≡ true → well (drop (index_of b s + 1) s) ≡ true
    well-past s h e =
        let p = take (index_of b s) s in
        let r = drop (index_of b s + 1) s in
        both-two (well p) (well r) (sym (well-ascii p b r small) ∙ rw (← index-split s h) e)
