-- A part of a line that has no comment. Assumes nothing.
use mathlib.Core.Path.{◌≡◌, refl, sym, ap, ◌∙◌}
use mathlib.Core.Bool.{Bool, true, false, false≢true}
use mathlib.Core.List.{List, [], ◌∷◌, ◌++◌}
use Prim.Native.Nat.{ℕ, zero, suc, ◌+◌, ◌<◌}
use native.Mathlib.Omega.{arith}
use native.Mathlib.Nat.{suc-add}
use lib.Dec.{eqb, ltb}
use lib.ListN.{length, take, drop}
use lib.Seq.{take_all, length-take-le, take-append_seam}
use borrow.Author.Tests.{eqb-true, ltb-true, ltb-false}
use Rattle.refusal.specs.Pick.{pick, both}
use Rattle.text.specs.Find.{begins, index_of}
use Rattle.text.specs.Trim.{trim_start, trim_end, started, trim_of}
use Rattle.text.proofs.Laws.{both_one, both-two}
use Rattle.text.proofs.SplitLaws.{well, well-one, well-ascii}
use Rattle.text.proofs.TrimLaws.{trim-well}
use Rattle.policy.specs.Piece.{quotes}
use Rattle.text.specs.Piece.{shorn}
use Rattle.text.proofs.PieceLaws.{shorn-le}
use Rattle.text.proofs.LackLaws.{lacks, lacks-drop, lacks-take, well-past, well-until}

-- ---- a part of a line that has no comment
pub record Inner (s : List ℕ) : Type 0 where
  pub good : well s ≡ true
  pub lf : lacks 10 s ≡ true
  pub hash : lacks 35 s ≡ true

pub inner-take : (n : ℕ) (s : List ℕ) → well (take n s) ≡ true → Inner s → Inner (take n s)
inner-take n s e i = record { good = e; lf = lacks-take 10 n s i.lf; hash = lacks-take 35 n s i.hash }

pub inner-drop : (n : ℕ) (s : List ℕ) → well (drop n s) ≡ true → Inner s → Inner (drop n s)
inner-drop n s e i = record { good = e; lf = lacks-drop 10 n s i.lf; hash = lacks-drop 35 n s i.hash }

pub lacks-trim : (b : ℕ) (s : List ℕ) → lacks b s ≡ true → lacks b (trim_of s) ≡ true
unfolding trim_of
lacks-trim b s e = lacks-take b (trim_end (started s)) (started s) (lacks-drop b (trim_start s) s e)

pub inner-trim : (s : List ℕ) → Inner s → Inner (trim_of s)
inner-trim s i = record { good = trim-well s i.good; lf = lacks-trim 10 s i.lf; hash = lacks-trim 35 s i.hash }

pub inner-until : (b : ℕ) (s : List ℕ) → b < 0x80 → Inner s → Inner (take (index_of b s) s)
inner-until b s h i = inner-take (index_of b s) s (well-until b h s i.good) i

pub inner-past : (b : ℕ) (s : List ℕ) → b < 0x80 → index_of b s < length s → Inner s → Inner (drop (index_of b s + 1) s)
inner-past b s h k i = inner-drop (index_of b s + 1) s (well-past b h s k i.good) i

-- after a word of ASCII
unfoldable pub ascii : List ℕ → Bool
ascii [] = true
ascii (x ∷ w) = both (ltb x 0x80) (ascii w)

pub well-word : (w t : List ℕ) → ascii w ≡ true → well (w ++ t) ≡ well t
unfolding ascii
well-word [] t e = refl
well-word (x ∷ w) t e = well-one x (w ++ t) (ltb-true x 0x80 (both_one (ltb x 0x80) (ascii w) e))
    ∙ well-word w t (both-two (ltb x 0x80) (ascii w) e)

pub begins-split : (w s : List ℕ) → begins w s ≡ true → s ≡ w ++ drop (length w) s
unfolding begins
begins-split [] s e = refl
begins-split (c ∷ w) [] e = absurd (false≢true e)
begins-split (c ∷ w) (x ∷ s) e =
    let q = eqb-true x c (both_one (eqb x c) (begins w s) e) in
    let r = begins-split w s (both-two (eqb x c) (begins w s) e) in
    rw q (ap (λ (l : List ℕ). c ∷ l) r)

pub inner-word : (w s : List ℕ) → ascii w ≡ true → begins w s ≡ true → Inner s → Inner (drop (length w) s)
inner-word w s a e i = inner-drop (length w) s (sym (well-word w (drop (length w) s) a) ∙ rw (← begins-split w s e) i.good) i

-- ---- quotes
well-quotes : (s : List ℕ) → well s ≡ true → well (drop (quotes s) s) ≡ true
unfolding quotes
well-quotes [] e = e
well-quotes (x ∷ s) e = by (eqb x 34) refl (well-quotes s)
  where
    by : (t : Bool) → eqb x 34 ≡ t → (well s ≡ true → well (drop (quotes s) s) ≡ true)
        → well (drop (pick t (suc (quotes s)) 0) (x ∷ s)) ≡ true
    by true q ih = let z = eqb-true x 34 q in ih (sym (well-one x s (omega arith)) ∙ e)
    by false q ih = e

pub inner-quotes : (s : List ℕ) → Inner s → Inner (drop (quotes s) s)
inner-quotes s i = inner-drop (quotes s) s (well-quotes s i.good) i

unquoted-split : (s : List ℕ) → shorn 34 s < length s → s ≡ take (shorn 34 s) s ++ 34 ∷ drop (shorn 34 s + 1) s
unfolding shorn
unquoted-split [] h = absurd (omega arith)
unquoted-split (x ∷ s) h = by (both (eqb x 34) (eqb (shorn 34 s) 0)) refl (unquoted-split s) h
  where
    by : (t : Bool) → both (eqb x 34) (eqb (shorn 34 s) 0) ≡ t
        → (shorn 34 s < length s → s ≡ take (shorn 34 s) s ++ 34 ∷ drop (shorn 34 s + 1) s)
        → pick t 0 (suc (shorn 34 s)) < suc (length s)
        → ◌≡◌ {A = List ℕ} (x ∷ s) (take (pick t 0 (suc (shorn 34 s))) (x ∷ s) ++ 34 ∷ drop (pick t 0 (suc (shorn 34 s)) + 1) (x ∷ s))
    by true q ih h = rw (eqb-true x 34 (both_one (eqb x 34) (eqb (shorn 34 s) 0) q))
    by false q ih h = rw (suc-add (shorn 34 s) 1) (ap (λ (l : List ℕ). x ∷ l) (ih (omega arith)))

pub inner-unquoted : (s : List ℕ) → Inner s → Inner (take (shorn 34 s) s)
inner-unquoted s i = inner-take (shorn 34 s) s (by (ltb (shorn 34 s) (length s)) refl) i
  where
    by : (t : Bool) → ltb (shorn 34 s) (length s) ≡ t → well (take (shorn 34 s) s) ≡ true
    by true q =
        let p = take (shorn 34 s) s in
        let r = drop (shorn 34 s + 1) s in
        both_one (well p) (well r) (sym (well-ascii p 34 r (omega arith))
        ∙ rw (← unquoted-split s (ltb-true (shorn 34 s) (length s) q)) i.good)
    by false q = rw (take_all (shorn 34 s) s (ltb-false (shorn 34 s) (length s) q)) i.good

-- no quote at the front after they went
quotes-gone : (s : List ℕ) → quotes (drop (quotes s) s) ≡ 0
unfolding quotes
quotes-gone [] = refl
quotes-gone (x ∷ s) = by (eqb x 34) refl (quotes-gone s)
  where
    by : (t : Bool) → eqb x 34 ≡ t → quotes (drop (quotes s) s) ≡ 0 → quotes (drop (pick t (suc (quotes s)) 0) (x ∷ s)) ≡ 0
    by true q ih = ih
    by false q ih = rw q

quotes-take : (n : ℕ) (s : List ℕ) → quotes s ≡ 0 → quotes (take n s) ≡ 0
unfolding quotes
quotes-take zero s e = refl
quotes-take (suc n) [] e = refl
quotes-take (suc n) (x ∷ s) e = by (eqb x 34) e
  where
    by : (t : Bool) → pick t (suc (quotes s)) 0 ≡ 0 → pick t (suc (quotes (take n s))) 0 ≡ 0
    by true e = absurd (omega arith)
    by false e = refl

unquoted-take : (s : List ℕ) → shorn 34 (take (shorn 34 s) s) ≡ shorn 34 s
unfolding shorn
unquoted-take [] = refl
unquoted-take (x ∷ s) = by (both (eqb x 34) (eqb (shorn 34 s) 0)) refl (unquoted-take s)
  where
    by : (t : Bool) → both (eqb x 34) (eqb (shorn 34 s) 0) ≡ t → shorn 34 (take (shorn 34 s) s) ≡ shorn 34 s
        → shorn 34 (take (pick t 0 (suc (shorn 34 s))) (x ∷ s)) ≡ pick t 0 (suc (shorn 34 s))
    by true q ih = refl
    by false q ih = rw (ih, q)

-- ---- a name: no comment, no LF, no quote at either end
pub record FineName (n : List ℕ) : Type 0 where
  pub inner : Inner n
  pub front : quotes n ≡ 0
  pub back : shorn 34 n ≡ length n

pub fine-name : (s : List ℕ) → Inner s → FineName (take (shorn 34 (drop (quotes s) s)) (drop (quotes s) s))
fine-name s i =
    let r = drop (quotes s) s in
    record {
      inner = inner-unquoted r (inner-quotes s i);
      front = quotes-take (shorn 34 r) r (quotes-gone s);
      back = unquoted-take r ∙ sym (length-take-le (shorn 34 r) r (shorn-le 34 r));
    }

-- a name between quotes
quotes-before : (n : List ℕ) → quotes n ≡ 0 → 0 < length n → quotes (n ++ 34 ∷ []) ≡ 0
unfolding quotes
quotes-before [] e h = absurd (omega arith)
quotes-before (x ∷ n) e h = by (eqb x 34) e
  where
    by : (t : Bool) → pick t (suc (quotes n)) 0 ≡ 0 → pick t (suc (quotes (n ++ 34 ∷ []))) 0 ≡ 0
    by true e = absurd (omega arith)
    by false e = refl

unquoted-after : (n : List ℕ) → shorn 34 (n ++ 34 ∷ []) ≡ shorn 34 n
unfolding shorn
unquoted-after [] = refl
unquoted-after (x ∷ n) = rw (unquoted-after n)

pub quoted-name : (n : List ℕ) → FineName n → take (shorn 34 (drop (quotes (34 ∷ (n ++ 34 ∷ []))) (34 ∷ (n ++ 34 ∷ []))))
    (drop (quotes (34 ∷ (n ++ 34 ∷ []))) (34 ∷ (n ++ 34 ∷ []))) ≡ n
unfolding quotes
quoted-name [] f = unfold shorn in refl
quoted-name (x ∷ n) f =
    let z : quotes (x ∷ (n ++ 34 ∷ [])) ≡ 0 = quotes-before (x ∷ n) f.front (omega arith) in
    let u : shorn 34 (x ∷ (n ++ 34 ∷ [])) ≡ suc (length n) = unquoted-after (x ∷ n) ∙ f.back in
    rw (z, u) (take-append_seam (x ∷ n) (34 ∷ []))
