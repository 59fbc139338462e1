-- Trimming by the encodings of White_Space at either end, of any bytes, well formed or not: each such encoding goes, and nothing else.
-- Assumes nothing.
use mathlib.Core.Logic.{inl, inr}
use mathlib.Core.List.{append-nil, List, [], ◌∷◌, ◌++◌}
use mathlib.Core.Path.{◌≡◌, refl, ap, ◌∙◌, sym}
use mathlib.Core.Bool.{Bool, true, false, false≢true}
use Prim.Native.Nat.{ℕ, suc, ◌+◌, ◌-◌, ◌/◌, ◌%◌, zero, ◌<◌, ◌≤◌}
use native.Mathlib.Omega.{arith}
use native.Mathlib.Nat.{zero-add}
use lib.ListN.{length, drop, take, length-append, take-append-drop}
use lib.Seq.{take-length}
use lib.Dec.{ltb, eqb}
use borrow.Author.Tests.{ltb-true, eqb-true}
use Rattle.refusal.specs.Pick.{pick, both}
use Rattle.text.specs.Chars.{Char, char, more, chars, chars_from, code_of, code_by, more_by}
use Rattle.text.specs.White.{is_white}
use Rattle.text.specs.Ranges.{in_some}
use Rattle.text.specs.Trim.{start_len, end_len, trim_start, trim_end}
use Rattle.text.specs.Encode.{Scalar, encode}
use Rattle.text.specs.Claims.{AtFront, AtEnd}
use Rattle.text.specs.Utf8.{seq_len}
use Rattle.text.proofs.DecodeLaws.{Fronted, fronted}
use Rattle.text.proofs.SplitLaws.{Starts, chars-start, bytes-all, chars-cut}
use Rattle.text.proofs.EncodeLaws.{nonempty, char_of, chars-encode}
use Rattle.text.proofs.TrimLaws.{blank-append, end-append}
use Rattle.text.proofs.CharLaws.{bytes_of}
use Rattle.text.proofs.Laws.{both-two}

-- ---- the encoding of a scalar value at the front
pub front-white : (c : ℕ) (s : List ℕ) → Scalar c → is_white c ≡ true → trim_start (encode c ++ s) ≡ length (encode c) + trim_start s
unfolding trim_start start_len
front-white c s h e = rw (chars-encode c s h, e) (omega (arith, nonempty c))

-- any other stays
pub front-other : (c : ℕ) (s : List ℕ) → Scalar c → is_white c ≡ false → trim_start (encode c ++ s) ≡ 0
unfolding trim_start start_len
front-other c s h e = rw (chars-encode c s h, e)

-- ---- and at the end, whatever stands before it
data Headed : List ℕ → Type 0 where
  by-head : {x : ℕ} {t : List ℕ} → Starts x → Headed (x ∷ t)

headed : (c : ℕ) → Headed (encode c)
unfolding encode
headed c = by (ltb c 0x80) refl (ltb c 0x800) (ltb c 0x10000)
  where
    by : (t : Bool) → ltb c 0x80 ≡ t → (u v : Bool)
        → Headed
        (pick t (c ∷ [])
        (pick u ((0xC0 + c / 64) ∷ (0x80 + c % 64) ∷ [])
        (pick v ((0xE0 + c / 4096) ∷ (0x80 + c / 64 % 64) ∷ (0x80 + c % 64) ∷ [])
        ((0xF0 + c / 262144) ∷ (0x80 + c / 4096 % 64) ∷ (0x80 + c / 64 % 64) ∷ (0x80 + c % 64) ∷ []))))
    by true e u v = by-head (inl (ltb-true c 0x80 e))
    by false e true v = by-head {x = 0xC0 + c / 64} (inr (omega arith))
    by false e false true = by-head {x = 0xE0 + c / 4096} (inr (omega arith))
    by false e false false = by-head {x = 0xF0 + c / 262144} (inr (omega arith))

parted : (s : List ℕ) {l : List ℕ} → Headed l → chars (s ++ l) ≡ chars s ++ chars l
parted s (by-head {x = x} {t = t} h) = chars-start s x t h

chars-back : (s : List ℕ) (c : ℕ) → Scalar c → chars (s ++ encode c) ≡ chars s ++ char_of c ∷ []
unfolding chars chars_from
chars-back s c h =
    let o : chars (encode c) ≡ char_of c ∷ [] = rw append-nil at (chars-encode c [] h) in
    parted s (headed c) ∙ ap (λ (l : List Char). chars s ++ l) o

-- White_Space goes
pub back-white : (s : List ℕ) (c : ℕ) → Scalar c → is_white c ≡ true → trim_end (s ++ encode c) ≡ trim_end s
unfolding trim_end
back-white s c h e = rw (chars-back s c h) (blank-append (chars s) c (length (encode c) - 1) e)

-- any other stays, and all before it
pub back-other : (s : List ℕ) (c : ℕ) → Scalar c → is_white c ≡ false → trim_end (s ++ encode c) ≡ length (s ++ encode c)
unfolding trim_end end_len
back-other s c h e =
    let one : end_len (char_of c ∷ []) ≡ suc (length (encode c) - 1) = rw e (omega arith) in
    let a = end-append (chars s) (char_of c ∷ []) (omega (arith, one)) in
    rw (chars-back s c h) (omega (arith, a, one, bytes-all s, nonempty c, length-append s (encode c)))

-- ---- and nothing else goes
-- a first character that is White_Space is an encoding, as long as the character says
white-first : (x : ℕ) (s : List ℕ) → is_white (code_of (x ∷ s)) ≡ true → Fronted (x ∷ s) (suc (more (x ∷ s)))
unfolding code_of code_by more more_by is_white in_some
white-first x s e = by (seq_len (x ∷ s)) refl
  where
    by : (k : ℕ) → seq_len (x ∷ s) ≡ k → Fronted (x ∷ s) (suc (more_by k))
    by zero q = absurd (false≢true (rw q at e))
    by (suc k) q = fronted x s k q

-- what goes at the front is the encoding of White_Space
pub front-only : (s : List ℕ) → 0 < trim_start s → AtFront s
unfolding trim_start start_len chars chars_from
front-only [] h = absurd (omega arith)
front-only (x ∷ s) h = by (is_white (code_of (x ∷ s))) refl h
  where
    by : (t : Bool) → is_white (code_of (x ∷ s)) ≡ t
        → 0 < pick t (suc (more (x ∷ s)) + start_len (chars_from (more (x ∷ s)) s)) 0 → AtFront (x ∷ s)
    by true e h =
        let f = white-first x s e in
        let k = suc (more (x ∷ s)) in
        record {
          code = code_of (x ∷ s);
          rest = drop k (x ∷ s);
          scalar = f.scalar;
          white = e;
          whole = rw f.bytes (sym (take-append-drop k (x ∷ s)));
        }
    by false e h = absurd (omega arith)

-- ---- at the end: the last character is White_Space
record Last (cs : List Char) : Type 0 where
  fore : List Char
  code : ℕ
  others : ℕ
  white : is_white code ≡ true
  whole : cs ≡ fore ++ char code others ∷ []

last-white : (cs : List Char) → end_len cs < bytes_of cs → Last cs
unfolding end_len bytes_of
last-white [] h = absurd (omega arith)
last-white (char c m ∷ []) h = by (is_white c) refl h
  where
    by : (t : Bool) → is_white c ≡ t → pick (both t true) 0 (suc m + 0) < suc m + 0 → Last (char c m ∷ [])
    by true e h = record { fore = []; code = c; others = m; white = e; whole = refl }
    by false e h = absurd (omega arith)
last-white (char c m ∷ char d n ∷ ds) h = by (both (is_white c) (eqb (end_len (char d n ∷ ds)) 0)) refl h (last-white (char d n ∷ ds))
  where
    further : Last (char d n ∷ ds) → Last (char c m ∷ char d n ∷ ds)
    further l = record {
      fore = char c m ∷ l.fore;
      code = l.code;
      others = l.others;
      white = l.white;
      whole = ap (λ (k : List Char). char c m ∷ k) l.whole;
    }

    by : (t : Bool) → both (is_white c) (eqb (end_len (char d n ∷ ds)) 0) ≡ t
        → pick t 0 (suc m + end_len (char d n ∷ ds)) < suc m + bytes_of (char d n ∷ ds)
        → (end_len (char d n ∷ ds) < bytes_of (char d n ∷ ds) → Last (char d n ∷ ds)) → Last (char c m ∷ char d n ∷ ds)
    by true e h ih =
        let none = eqb-true (end_len (char d n ∷ ds)) 0 (both-two (is_white c) (eqb (end_len (char d n ∷ ds)) 0) e) in
        further (ih (omega (arith, none)))
    by false e h ih = further (ih (omega arith))

bytes-append : (cs ds : List Char) → bytes_of (cs ++ ds) ≡ bytes_of cs + bytes_of ds
unfolding bytes_of
bytes-append [] ds = sym (zero-add _)
bytes-append (char c m ∷ cs) ds = omega (arith, bytes-append cs ds)

-- a text of one character that is White_Space is its encoding
alone : (s : List ℕ) (c m : ℕ) → chars s ≡ char c m ∷ [] → is_white c ≡ true → (Scalar c) × (encode c ≡ s)
unfolding chars chars_from bytes_of
alone [] c m e w = absurd (let z : ◌≡◌ {A = ℕ} 0 1 = cc in omega arith)
alone (x ∷ s) c m e w =
    let p : code_of (x ∷ s) ≡ c = cc in
    let q : more (x ∷ s) ≡ m = cc in
    let f = white-first x s (ap is_white p ∙ w) in
    let l : suc m ≡ length (x ∷ s) = omega (arith, sym (ap bytes_of e) ∙ bytes-all (x ∷ s)) in
    let n : suc (more (x ∷ s)) ≡ length (x ∷ s) = ap suc q ∙ l in
    let b : take (suc (more (x ∷ s))) (x ∷ s) ≡ x ∷ s = ap (λ (k : ℕ). take k (x ∷ s)) n ∙ take-length (x ∷ s) in
    (rw p at f.scalar, ap encode (sym p) ∙ f.bytes ∙ b)

-- and so is what goes at the end
pub back-only : (s : List ℕ) → trim_end s < length s → AtEnd s
unfolding trim_end
back-only s h =
    let l = last-white (chars s) (omega (arith, bytes-all s)) in
    let n = bytes_of l.fore in
    let w = bytes-append l.fore (char l.code l.others ∷ []) in
    let b : n ≤ length s = omega (arith, bytes-all s, ap bytes_of l.whole, w) in
    let c = chars-cut s n l.fore (char l.code l.others ∷ []) l.whole refl b in
    let a = alone (drop n s) l.code l.others c.right l.white in
    record {
      code = l.code;
      rest = take n s;
      scalar = a.0;
      white = l.white;
      whole = rw a.1 (sym (take-append-drop n s));
    }
