-- Trimming: what is left is trimmed, and what is trimmed stays. Assumes nothing.
use mathlib.Core.Path.{◌≡◌, refl, sym, ap, ◌∙◌}
use mathlib.Core.Bool.{Bool, true, false}
use mathlib.Core.List.{List, [], ◌∷◌, ◌++◌}
use Prim.Native.Nat.{ℕ, suc, ◌+◌, ◌-◌, ◌<◌, ◌≤◌}
use native.Mathlib.Omega.{arith}
use native.Mathlib.Nat.{zero-add}
use lib.ListN.{length-drop, length, length-append, take, drop, get_or}
use lib.Seq.{length-take-le, take-suc, take-length}
use lib.Dec.{eqb}
use borrow.Author.Tests.{ne_eqb}
use Rattle.refusal.specs.Pick.{pick, both}
use Rattle.text.specs.Chars.{chars_from, Char, char, chars}
use Rattle.text.specs.White.{is_white}
use Rattle.text.specs.Trim.{start_len, end_len, trim_start, trim_end, trim_of, started, trimmed}
use Rattle.text.proofs.CharLaws.{bytes_of, end-long, start-long}
use Rattle.text.proofs.Laws.{both_one, both-two}
use Rattle.text.proofs.SplitLaws.{ascii-one, Cut, chars-cut, bytes-all, all_proper, proper-append, well, chars_ascii}

-- ---- the characters that stay and that go, at the end and at the start
unfoldable kept : List Char → List Char
kept [] = []
kept (char c m ∷ cs) = pick (both (is_white c) (eqb (end_len cs) 0)) [] (char c m ∷ kept cs)

unfoldable gone : List Char → List Char
gone [] = []
gone (char c m ∷ cs) = pick (both (is_white c) (eqb (end_len cs) 0)) (char c m ∷ cs) (gone cs)

kept-gone : (cs : List Char) → cs ≡ kept cs ++ gone cs
unfolding kept gone
kept-gone [] = refl
kept-gone (char c m ∷ cs) = by (both (is_white c) (eqb (end_len cs) 0)) (kept-gone cs)
  where
    by : (t : Bool) → cs ≡ kept cs ++ gone cs
        → ◌≡◌ {A = List Char} (char c m ∷ cs) (pick t [] (char c m ∷ kept cs) ++ pick t (char c m ∷ cs) (gone cs))
    by true ih = refl
    by false ih = ap (λ (l : List Char). char c m ∷ l) ih

kept-bytes : (cs : List Char) → bytes_of (kept cs) ≡ end_len cs
unfolding kept end_len bytes_of
kept-bytes [] = refl
kept-bytes (char c m ∷ cs) = by (both (is_white c) (eqb (end_len cs) 0)) (kept-bytes cs)
  where
    by : (t : Bool) → bytes_of (kept cs) ≡ end_len cs → bytes_of (pick t [] (char c m ∷ kept cs)) ≡ pick t 0 (suc m + end_len cs)
    by true ih = refl
    by false ih = rw ih

kept-end : (cs : List Char) → end_len (kept cs) ≡ end_len cs
unfolding kept end_len
kept-end [] = refl
kept-end (char c m ∷ cs) = by (both (is_white c) (eqb (end_len cs) 0)) refl (kept-end cs)
  where
    by : (t : Bool) → both (is_white c) (eqb (end_len cs) 0) ≡ t → end_len (kept cs) ≡ end_len cs
        → end_len (pick t [] (char c m ∷ kept cs)) ≡ pick t 0 (suc m + end_len cs)
    by true e ih = refl
    by false e ih = rw (ih, e)

unfoldable fore : List Char → List Char
fore [] = []
fore (char c m ∷ cs) = pick (is_white c) (char c m ∷ fore cs) []

unfoldable rest : List Char → List Char
rest [] = []
rest (char c m ∷ cs) = pick (is_white c) (rest cs) (char c m ∷ cs)

fore-rest : (cs : List Char) → cs ≡ fore cs ++ rest cs
unfolding fore rest
fore-rest [] = refl
fore-rest (char c m ∷ cs) = by (is_white c) (fore-rest cs)
  where
    by : (t : Bool) → cs ≡ fore cs ++ rest cs
        → ◌≡◌ {A = List Char} (char c m ∷ cs) (pick t (char c m ∷ fore cs) [] ++ pick t (rest cs) (char c m ∷ cs))
    by true ih = ap (λ (l : List Char). char c m ∷ l) ih
    by false ih = refl

fore-bytes : (cs : List Char) → bytes_of (fore cs) ≡ start_len cs
unfolding fore start_len bytes_of
fore-bytes [] = refl
fore-bytes (char c m ∷ cs) = by (is_white c) (fore-bytes cs)
  where
    by : (t : Bool) → bytes_of (fore cs) ≡ start_len cs → bytes_of (pick t (char c m ∷ fore cs) []) ≡ pick t (suc m + start_len cs) 0
    by true ih = rw ih
    by false ih = refl

rest-start : (cs : List Char) → start_len (rest cs) ≡ 0
unfolding rest start_len
rest-start [] = refl
rest-start (char c m ∷ cs) = by (is_white c) refl (rest-start cs)
  where
    by : (t : Bool) → is_white c ≡ t → start_len (rest cs) ≡ 0 → start_len (pick t (rest cs) (char c m ∷ cs)) ≡ 0
    by true e ih = ih
    by false e ih = rw e

-- without the White_Space at the end, a text that begins with none still does
kept-start : (cs : List Char) → start_len cs ≡ 0 → start_len (kept cs) ≡ 0
unfolding kept start_len
kept-start [] e = refl
kept-start (char c m ∷ cs) e = by (is_white c) refl e
  where
    by : (t : Bool) → is_white c ≡ t → pick t (suc m + start_len cs) 0 ≡ 0
        → start_len (pick (both t (eqb (end_len cs) 0)) [] (char c m ∷ kept cs)) ≡ 0
    by true q e = absurd (omega arith)
    by false q e = rw q

-- ---- the text that is left
module _ (s : List ℕ) where
  started-cut : Cut s (trim_start s) (fore (chars s)) (rest (chars s))
  unfolding trim_start
  started-cut =
      chars-cut s (start_len (chars s)) (fore (chars s)) (rest (chars s)) (fore-rest (chars s)) (fore-bytes (chars s)) (start-long s)

  ended-cut : Cut s (trim_end s) (kept (chars s)) (gone (chars s))
  unfolding trim_end
  ended-cut = chars-cut s (end_len (chars s)) (kept (chars s)) (gone (chars s)) (kept-gone (chars s)) (kept-bytes (chars s)) (end-long s)

module _ (s : List ℕ) where
  trim-chars : chars (trim_of s) ≡ kept (rest (chars s))
  unfolding trim_of
  trim-chars = (ended-cut (started s)).left ∙ ap kept (started-cut s).right

  -- what is trimmed begins with no White_Space
  pub trim_start-whole : trim_start (trim_of s) ≡ 0
  unfolding trim_start
  trim_start-whole = ap start_len trim-chars ∙ kept-start (rest (chars s)) (rest-start (chars s))

  -- and ends with none
  pub trim_end-whole : trim_end (trim_of s) ≡ length (trim_of s)
  unfolding trim_end
  trim_end-whole =
      let r = rest (chars s) in
      ap end_len trim-chars ∙ kept-end r ∙ sym (kept-bytes r) ∙ sym (ap bytes_of trim-chars) ∙ bytes-all (trim_of s)

  -- of a well-formed text it is well formed
  pub trim-well : well s ≡ true → well (trim_of s) ≡ true
  unfolding well
  trim-well e =
      let r = rest (chars s) in
      let a : all_proper (fore (chars s) ++ r) ≡ true = rw (← fore-rest (chars s)) e in
      let b = both-two (all_proper (fore (chars s))) (all_proper r) (sym (proper-append (fore (chars s)) r) ∙ a) in
      let d : all_proper (kept r ++ gone r) ≡ true = rw (← kept-gone r) b in
      rw trim-chars (both_one (all_proper (kept r)) (all_proper (gone r)) (sym (proper-append (kept r) (gone r)) ∙ d))

-- what has no White_Space at its ends stays as it is
pub trim-whole : (s : List ℕ) → trim_start s ≡ 0 → trim_end s ≡ length s → trim_of s ≡ s
unfolding trim_of
trim-whole s a b = rw (a, b, take-length s)

-- trimming again changes nothing
pub trim-twice : (s : List ℕ) → trim_of (trim_of s) ≡ trim_of s
trim-twice s = trim-whole (trim_of s) (trim_start-whole s) (trim_end-whole s)

-- ---- the part that `trim` gives
pub trim-inside : (s : List ℕ) → (trimmed s).from + (trimmed s).len ≤ length s
unfolding trimmed
trim-inside s = omega (arith, start-long s, end-long (started s), length-drop (trim_start s) s)

-- its bytes are the text trimmed
pub trim-part : (s : List ℕ) → take (trimmed s).len (drop (trimmed s).from s) ≡ trim_of s
unfolding trimmed trim_of
trim-part s = refl

-- ---- the end of a text by its last part, after an ASCII byte
pub end-append : (cs ds : List Char) → 0 < end_len ds → end_len (cs ++ ds) ≡ bytes_of cs + end_len ds
unfolding end_len bytes_of
end-append [] ds h = sym (zero-add _)
end-append (char c m ∷ cs) ds h = by (is_white c) (end-append cs ds h)
  where
    by : (t : Bool) → end_len (cs ++ ds) ≡ bytes_of cs + end_len ds
        → pick (both t (eqb (end_len (cs ++ ds)) 0)) 0 (suc m + end_len (cs ++ ds)) ≡ suc m + bytes_of cs + end_len ds
    by true ih = rw (ih, ne_eqb (bytes_of cs + end_len ds) 0 (λ z. omega arith)) (omega arith)
    by false ih = rw ih (omega arith)

pub end_after : (w : List ℕ) (x : ℕ) (t : List ℕ) → x < 0x80 → trim_end (x ∷ t) ≡ suc (length t)
    → trim_end (w ++ x ∷ t) ≡ length (w ++ x ∷ t)
unfolding trim_end
end_after w x t h e =
    rw (chars_ascii w x t h) (end-append (chars w) (chars (x ∷ t)) (omega arith) ∙ rw (bytes-all w, e) (sym (length-append w (x ∷ t))))

-- ---- the end of a text by its last byte, if that is ASCII
pub blank-append : (cs : List Char) (x n : ℕ) → is_white x ≡ true → end_len (cs ++ char x n ∷ []) ≡ end_len cs
unfolding end_len
blank-append [] x n e = rw e
blank-append (char c m ∷ cs) x n e = rw (blank-append cs x n e)

module _ (s : List ℕ) (e : ℕ) (some : 0 < e) (inside : e ≤ length s) (ascii : get_or s (e - 1) 0 < 0x80) where
  last-char : chars (take e s) ≡ chars (take (e - 1) s) ++ char (get_or s (e - 1) 0) 0 ∷ []
  unfolding chars chars_from
  last-char =
      let w = take (e - 1) s in
      let x = get_or s (e - 1) 0 in
      let p : e ≡ suc (e - 1) = omega arith in
      let q : take e s ≡ w ++ x ∷ [] = ap (λ (k : ℕ). take k s) p ∙ take-suc s (e - 1) 0 (omega arith) in
      rw q (chars_ascii w x [] ascii ∙ ap (λ (cs : List Char). chars w ++ cs) (ascii-one x [] ascii))

  -- White_Space goes
  pub end_goes : is_white (get_or s (e - 1) 0) ≡ true → trim_end (take e s) ≡ trim_end (take (e - 1) s)
  unfolding trim_end
  end_goes y = ap end_len last-char ∙ blank-append (chars (take (e - 1) s)) (get_or s (e - 1) 0) 0 y

  -- any other byte stays, and all before it
  pub end_stays : is_white (get_or s (e - 1) 0) ≡ false → trim_end (take e s) ≡ e
  unfolding trim_end end_len
  end_stays n =
      let w = take (e - 1) s in
      let x = get_or s (e - 1) 0 in
      let one : end_len (char x 0 ∷ []) ≡ 1 = rw n in
      let a = end-append (chars w) (char x 0 ∷ []) (omega (arith, one)) in
      let l = length-take-le (e - 1) s (omega arith) in
      ap end_len last-char ∙ omega (arith, a, one, bytes-all w, l)
