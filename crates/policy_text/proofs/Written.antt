-- The lines of a well-formed text, and of a text that is put together from lines. Assumes nothing.
use mathlib.Core.Path.{◌≡◌, refl, sym, ap, ◌∙◌}
use mathlib.Core.Bool.{Bool, true, false}
use mathlib.Core.List.{List, [], ◌∷◌, ◌++◌}
use Prim.Native.Nat.{ℕ, zero, suc, ◌+◌, ◌-◌, ◌≤◌, ◌<◌}
use native.Mathlib.Omega.{arith}
use native.Mathlib.Nat.{not-suc-le-zero}
use lib.Dec.{eqb, ltb}
use lib.ListN.{length, get_or, take, drop, length-append, get_or-append}
use lib.Seq.{take-append_seam, drop-append-add, split_at, take-take, get_or-take, length-take-le}
use borrow.Author.Tests.{eqb-true, ne_eqb, lt-ltb, ltb-true, ltb-false}
use Rattle.refusal.specs.Pick.{pick, both}
use Rattle.text.specs.Find.{index_of}
use Rattle.text.specs.Lines.{end_by, cr_before, line_len, line_step}
use Rattle.text.specs.Chars.{Char, char, chars_from, chars}
use Rattle.text.specs.White.{is_white, whites}
use Rattle.text.specs.Ranges.{in_some}
use Rattle.text.specs.Trim.{end_len, trim_end}
use Rattle.text.proofs.Laws.{left-none, both_one, both-two}
use Rattle.text.proofs.FindLaws.{index-le}
use Rattle.text.proofs.CharLaws.{bytes_of}
use Rattle.text.proofs.SplitLaws.{well, well-ascii, ascii-one, chars_ascii, bytes-all, all_proper}
use Rattle.text.specs.Piece.{Piece}
use Rattle.policy.specs.Piece.{lines_from, lines_of}
use Rattle.policy.proofs.Lines.{EachPiece, none, more, lines_next, step_less}
use Rattle.text.proofs.LackLaws.{lacks, lacks-take, index_at, until-lacks, well-until, well-past}

-- ---- a line that ends in no CR
end_none : (cs ds : List Char) → end_len ds ≡ 0 → end_len (cs ++ ds) ≤ bytes_of cs
unfolding end_len bytes_of
end_none [] ds h = omega arith
end_none (char c m ∷ cs) ds h = by (both (is_white c) (eqb (end_len (cs ++ ds)) 0)) (end_none cs ds h)
  where
    by : (t : Bool) → end_len (cs ++ ds) ≤ bytes_of cs → pick t 0 (suc m + end_len (cs ++ ds)) ≤ suc m + bytes_of cs
    by true ih = omega arith
    by false ih = omega arith

pub chars-none : chars [] ≡ []
unfolding chars chars_from
chars-none = refl

cr-white : end_len (chars (13 ∷ [])) ≡ 0
unfolding end_len is_white in_some whites
cr-white = rw (ascii-one 13 [] (omega arith), chars-none)

cr-end : (w : List ℕ) → trim_end (w ++ 13 ∷ []) ≤ length w
unfolding trim_end
cr-end w = rw (chars_ascii w 13 [] (omega arith)) (omega (arith, end_none (chars w) (chars (13 ∷ [])) cr-white, bytes-all w))

pub last-cr : (l : List ℕ) → trim_end l ≡ length l → 0 < length l → get_or l (length l - 1) 0 ≡ 13 → ⊥
last-cr l e h c =
    let n = length l - 1 in
    let z : suc n ≡ length l = omega arith in
    let d : drop (suc n) l ≡ [] = left-none l (suc n) (omega arith) in
    let q : l ≡ take n l ++ 13 ∷ [] = split_at l n 0 (omega arith) ∙ rw (c, d) in
    let y = cr-end (take n l) in
    let k : length (take n l) ≡ n = length-take-le n l (omega arith) in
    let x : trim_end l ≡ trim_end (take n l ++ 13 ∷ []) = ap trim_end q in
    omega arith

-- ---- the first line of what is put together
cr-none : (l s : List ℕ) → trim_end l ≡ length l → 0 < length l → cr_before (l ++ 10 ∷ s) (length l) ≡ false
unfolding cr_before
cr-none l s e h =
    rw (get_or-append l (10 ∷ s) 0 (length l - 1) (omega arith), ne_eqb (get_or l (length l - 1) 0) 13 (last-cr l e h))
    (by (ltb (length l) (length (l ++ 10 ∷ s))) (ltb 0 (length l)))
  where
    by : (a b : Bool) → both a (both b false) ≡ false
    by true true = refl
    by true false = refl
    by false b = refl

module _ (l s : List ℕ) (n : lacks 10 l ≡ true) (e : trim_end l ≡ length l) (h : 0 < length l) where
  front-len : line_len (l ++ 10 ∷ s) ≡ length l
  unfolding line_len
  front-len = rw (index_at 10 l s n, cr-none l s e h)

  front-step : line_step (l ++ 10 ∷ s) ≡ length l + 1
  unfolding line_step
  front-step = rw (index_at 10 l s n, lt-ltb (length l) (length (l ++ 10 ∷ s)) (omega (arith, length-append l (10 ∷ s))))

  pub lines-front : (at : ℕ) → lines_from at 0 (l ++ 10 ∷ s) ≡ (record { at = at; bytes = l }) ∷ lines_from (at + (length l + 1)) 0 s
  lines-front at = lines_next at (l ++ 10 ∷ s) (omega (arith, length-append l (10 ∷ s)))
      ∙ rw (front-len, front-step, take-append_seam l (10 ∷ s), drop-append-add l (10 ∷ s) 1)

-- ---- each line of a well-formed text
pub record GoodLine (p : Piece) : Type 0 where
  pub good : well p.bytes ≡ true
  pub lf : lacks 10 p.bytes ≡ true

line-take : (r : List ℕ) → line_len r ≤ index_of 10 r
unfolding line_len
line-take r = by (cr_before r (index_of 10 r))
  where
    by : (t : Bool) → end_by t (index_of 10 r) ≤ index_of 10 r
    by true = omega arith
    by false = omega arith

cr-well : (s : List ℕ) → 0 < length s → get_or s (length s - 1) 0 ≡ 13 → well s ≡ true → well (take (length s - 1) s) ≡ true
cr-well s h c e =
    let n = length s - 1 in
    let d : drop (suc n) s ≡ [] = left-none s (suc n) (omega arith) in
    let q : s ≡ take n s ++ 13 ∷ [] = split_at s n 0 (omega arith) ∙ rw (c, d) in
    let k : well (take n s ++ 13 ∷ []) ≡ true = rw (← q) e in
    both_one (well (take n s)) (well []) (sym (well-ascii (take n s) 13 [] (omega arith)) ∙ k)

line-well : (r : List ℕ) → well r ≡ true → well (take (line_len r) r) ≡ true
unfolding line_len
line-well r e = by (cr_before r (index_of 10 r)) refl
  where
    by : (t : Bool) → cr_before r (index_of 10 r) ≡ t → well (take (end_by t (index_of 10 r)) r) ≡ true
    by false q = well-until 10 (omega arith) r e
    by true q =
        let i = index_of 10 r in
        let t : both (ltb 0 i) (eqb (get_or r (i - 1) 0) 13) ≡ true = unfold cr_before in
        both-two (ltb i (length r)) (both (ltb 0 i) (eqb (get_or r (i - 1) 0) 13)) q in
        let h : 0 < i = ltb-true 0 i (both_one (ltb 0 i) (eqb (get_or r (i - 1) 0) 13) t) in
        let c : get_or r (i - 1) 0 ≡ 13 = eqb-true (get_or r (i - 1) 0) 13 (both-two (ltb 0 i) (eqb (get_or r (i - 1) 0) 13) t) in
        let u = take i r in
        let k : length u ≡ i = length-take-le i r (index-le 10 r) in
        let d : get_or u (length u - 1) 0 ≡ 13 = rw k (get_or-take i r (i - 1) 0 (omega arith) ∙ c) in
        let w : well (take (i - 1) u) ≡ true = rw k at (cr-well u (omega arith) d (well-until 10 (omega arith) r e)) in
        rw (take-take (i - 1) i r (omega arith)) at w

line-lacks : (r : List ℕ) → lacks 10 (take (line_len r) r) ≡ true
line-lacks r = rw (take-take (line_len r) (index_of 10 r) r (line-take r)) at
    (lacks-take 10 (line_len r) (take (index_of 10 r) r) (until-lacks 10 r))

pub well-none : well [] ≡ true
unfolding well chars chars_from all_proper
well-none = refl

step-well : (r : List ℕ) → well r ≡ true → well (drop (line_step r) r) ≡ true
unfolding line_step
step-well r e = by (ltb (index_of 10 r) (length r)) refl
  where
    by : (t : Bool) → ltb (index_of 10 r) (length r) ≡ t → well (drop (pick t (index_of 10 r + 1) (index_of 10 r)) r) ≡ true
    by true q = well-past 10 (omega arith) r (ltb-true (index_of 10 r) (length r) q) e
    by false q = rw (left-none r (index_of 10 r) (ltb-false (index_of 10 r) (length r) q)) well-none

good_none : (at : ℕ) (r : List ℕ) → length r ≤ 0 → EachPiece GoodLine (lines_from at 0 r)
unfolding lines_from
good_none at [] h = none
good_none at (x ∷ s) h = absurd (not-suc-le-zero h)

good-some : (at : ℕ) (r : List ℕ) → well r ≡ true
    → ((0 < length r) → EachPiece GoodLine (lines_from (at + line_step r) 0 (drop (line_step r) r))) → EachPiece GoodLine (lines_from at 0 r)
good-some at [] e ih = good_none at [] (omega arith)
good-some at (x ∷ s) e ih = rw (lines_next at (x ∷ s) (omega arith))
    (more (record { good = line-well (x ∷ s) e; lf = line-lacks (x ∷ s) }) (ih (omega arith)))

good-lines : (n at : ℕ) (r : List ℕ) → length r ≤ n → well r ≡ true → EachPiece GoodLine (lines_from at 0 r)
good-lines zero at r h e = good_none at r h
good-lines (suc n) at r h e =
    good-some at r e (λ k. good-lines n (at + line_step r) (drop (line_step r) r) (step_less n r h k) (step-well r e))

pub lines-good : (s : List ℕ) → well s ≡ true → EachPiece GoodLine (lines_of s)
unfolding lines_of
lines-good s e = good-lines (length s) 0 s (omega arith) e
