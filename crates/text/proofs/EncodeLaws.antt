-- What a code point is encoded as is one well-formed sequence, whose code point it is. Assumes nothing.
use mathlib.Core.Path.{◌≡◌, refl, ap, ◌∙◌}
use mathlib.Core.Logic.{⊎_elim}
use mathlib.Core.Bool.{Bool, true, false}
use mathlib.Core.List.{List, [], ◌∷◌, ◌++◌, map}
use Prim.Native.Nat.{ℕ, suc, ◌+◌, ◌-◌, ◌*◌, ◌/◌, ◌%◌, ◌≤◌, ◌<◌}
use native.Mathlib.Omega.{arith}
use lib.Dec.{ltb}
use lib.ListN.{length, drop, length-append}
use lib.Seq.{drop-append_seam}
use borrow.Author.Tests.{lt-ltb, le-ltb, le-leb, ltb-true, ltb-false}
use Rattle.refusal.specs.Pick.{pick, within}
use Rattle.text.specs.Utf8.{followers, follow_in, seq_len, up_to}
use Rattle.text.specs.Chars.{more, code_by, code_of, Char, char, chars_from, chars}
use Rattle.text.specs.Scan.{scan}
use Rattle.text.specs.Encode.{Scalar, encode, encode_all, Scalars, empty, point}
use Rattle.text.proofs.Laws.{scan-cons}
use Rattle.text.proofs.Utf8Laws.{leads, ranges, seq-2, seq-3, seq-4, seq-ascii}
use Rattle.text.proofs.CharLaws.{chars-next, more_of}

in-range : (lo hi x : ℕ) → lo ≤ x → x ≤ hi → within lo hi x ≡ true
in-range lo hi x h k = rw (le-leb lo x h, le-leb x hi k)

tail-in : (x : ℕ) → within 0x80 0xBF (0x80 + x % 64) ≡ true
tail-in x = in-range 0x80 0xBF (0x80 + x % 64) (omega arith) (omega arith)

-- ---- a sequence from its bytes
two : (a b lo hi : ℕ) (s : List ℕ) → followers a ≡ ranges 1 lo hi → within lo hi b ≡ true → seq_len (a ∷ b ∷ s) ≡ 2
two a b lo hi s e p = rw (seq-2 a b lo hi s e, p)

three : (a b d lo hi : ℕ) (s : List ℕ) → followers a ≡ ranges 2 lo hi → within lo hi b ≡ true → within 0x80 0xBF d ≡ true
    → seq_len (a ∷ b ∷ d ∷ s) ≡ 3
three a b d lo hi s e p q = rw (seq-3 a b d lo hi s e, p, q)

four : (a b d f lo hi : ℕ) (s : List ℕ) → followers a ≡ ranges 3 lo hi → within lo hi b ≡ true → within 0x80 0xBF d ≡ true
    → within 0x80 0xBF f ≡ true → seq_len (a ∷ b ∷ d ∷ f ∷ s) ≡ 4
four a b d f lo hi s e p q r = rw (seq-4 a b d f lo hi s e, p, q, r)

-- ---- the four bytes' low bits
low-tail : (x : ℕ) → (0x80 + x % 64) % 64 ≡ x % 64
low-tail x = omega arith

low-lead : (y : ℕ) → y < 8 → (0xF0 + y) % 8 ≡ y
low-lead y h = omega arith

up-1 : (c : ℕ) → c / 262144 * 64 + c / 4096 % 64 ≡ c / 4096
up-1 c = omega arith

up-2 : (c : ℕ) → c / 4096 * 64 + c / 64 % 64 ≡ c / 64
up-2 c = omega arith

up-3 : (c : ℕ) → c / 64 * 64 + c % 64 ≡ c
up-3 c = omega arith

code-of-4 : (c : ℕ) → c < 0x110000
    → (((0xF0 + c / 262144) % 8 * 64 + (0x80 + c / 4096 % 64) % 64) * 64 + (0x80 + c / 64 % 64) % 64) * 64 + (0x80 + c % 64) % 64 ≡ c
code-of-4 c h = rw (low-lead (c / 262144) (omega arith), low-tail (c / 4096), low-tail (c / 64), low-tail c, up-1 c, up-2 c, up-3 c)

-- ---- the two facts
pub record Encoded (c : ℕ) (s : List ℕ) : Type 0 where
  pub long : seq_len (encode c ++ s) ≡ length (encode c)
  pub code : code_of (encode c ++ s) ≡ c

module _ (c : ℕ) (s : List ℕ) where
  enc-1 : c < 0x80 → Encoded c s
  unfolding encode code_of code_by
  enc-1 h =
      let e : encode c ≡ c ∷ [] = rw (lt-ltb c 0x80 h) in
      let l = seq-ascii c s h in
      record { long = rw e l; code = rw e (rw l (omega arith)) }

  enc-2 : 0x80 ≤ c → c < 0x800 → Encoded c s
  unfolding encode code_of code_by followers follow_in ranges
  enc-2 h k =
      let e : encode c ≡ (0xC0 + c / 64) ∷ (0x80 + c % 64) ∷ [] = rw (le-ltb c 0x80 h, lt-ltb c 0x800 k) in
      let f = leads (ranges 1 0x80 0xBF) 0xC2 30 tt (0xC0 + c / 64) (omega arith) (omega arith) in
      let l = two (0xC0 + c / 64) (0x80 + c % 64) 0x80 0xBF s f (tail-in c) in
      record { long = rw e l; code = rw e (rw l (omega arith)) }

  -- three bytes, by the row
  in-3 : (lo hi : ℕ) → 0x800 ≤ c → c < 0x10000 → followers (0xE0 + c / 4096) ≡ ranges 2 lo hi → lo ≤ 0x80 + c / 64 % 64
      → 0x80 + c / 64 % 64 ≤ hi → Encoded c s
  unfolding encode code_of code_by
  in-3 lo hi h k f p q =
      let e : encode c ≡ (0xE0 + c / 4096) ∷ (0x80 + c / 64 % 64) ∷ (0x80 + c % 64) ∷ [] =
      rw (le-ltb c 0x80 (omega arith), le-ltb c 0x800 h, lt-ltb c 0x10000 k) in
      let l = three (0xE0 + c / 4096) (0x80 + c / 64 % 64) (0x80 + c % 64) lo hi s f (in-range lo hi _ p q) (tail-in c) in
      record { long = rw e l; code = rw e (rw l (omega arith)) }

  in-4 : (lo hi : ℕ) → 0x10000 ≤ c → c < 0x110000 → followers (0xF0 + c / 262144) ≡ ranges 3 lo hi → lo ≤ 0x80 + c / 4096 % 64
      → 0x80 + c / 4096 % 64 ≤ hi → Encoded c s
  unfolding encode code_of code_by
  in-4 lo hi h k f p q =
      let e : encode c ≡ (0xF0 + c / 262144) ∷ (0x80 + c / 4096 % 64) ∷ (0x80 + c / 64 % 64) ∷ (0x80 + c % 64) ∷ [] =
      rw (le-ltb c 0x80 (omega arith), le-ltb c 0x800 (omega arith), le-ltb c 0x10000 h) in
      let l = four (0xF0 + c / 262144) (0x80 + c / 4096 % 64) (0x80 + c / 64 % 64) (0x80 + c % 64) lo hi s f (in-range lo hi _ p q)
      (tail-in (c / 64)) (tail-in c) in
      record { long = rw e l; code = rw e (rw l (code-of-4 c k)) }

  enc-3 : 0x800 ≤ c → c < 0x10000 → Scalar c → Encoded c s
  unfolding followers follow_in ranges
  enc-3 h k sc = by (ltb c 0x1000) refl (ltb c 0xD000) refl (ltb c 0xE000) refl
    where
      by : (t : Bool) → ltb c 0x1000 ≡ t → (u : Bool) → ltb c 0xD000 ≡ u → (v : Bool) → ltb c 0xE000 ≡ v → Encoded c s
      by true e u f v g =
          let p = ltb-true c 0x1000 e in
          let lead = leads (ranges 2 0xA0 0xBF) 0xE0 1 tt (0xE0 + c / 4096) (omega arith) (omega arith) in
          in-3 0xA0 0xBF h k lead (omega arith) (omega arith)
      by false e true f v g =
          let p = ltb-false c 0x1000 e in
          let q = ltb-true c 0xD000 f in
          let lead = leads (ranges 2 0x80 0xBF) 0xE1 12 tt (0xE0 + c / 4096) (omega arith) (omega arith) in
          in-3 0x80 0xBF h k lead (omega arith) (omega arith)
      by false e false f true g =
          let p = ltb-false c 0xD000 f in
          let q = ltb-true c 0xE000 g in
          let r : c < 0xD800 = ⊎_elim (λ w. w) (λ w. omega arith) sc in
          let lead = leads (ranges 2 0x80 0x9F) 0xED 1 tt (0xE0 + c / 4096) (omega arith) (omega arith) in
          in-3 0x80 0x9F h k lead (omega arith) (omega arith)
      by false e false f false g =
          let q = ltb-false c 0xE000 g in
          let lead = leads (ranges 2 0x80 0xBF) 0xEE 2 tt (0xE0 + c / 4096) (omega arith) (omega arith) in
          in-3 0x80 0xBF h k lead (omega arith) (omega arith)

  enc-4 : 0x10000 ≤ c → c < 0x110000 → Encoded c s
  unfolding followers follow_in ranges
  enc-4 h k = by (ltb c 0x40000) refl (ltb c 0x100000) refl
    where
      by : (t : Bool) → ltb c 0x40000 ≡ t → (u : Bool) → ltb c 0x100000 ≡ u → Encoded c s
      by true e u f =
          let p = ltb-true c 0x40000 e in
          let lead = leads (ranges 3 0x90 0xBF) 0xF0 1 tt (0xF0 + c / 262144) (omega arith) (omega arith) in
          in-4 0x90 0xBF h k lead (omega arith) (omega arith)
      by false e true f =
          let p = ltb-false c 0x40000 e in
          let q = ltb-true c 0x100000 f in
          let lead = leads (ranges 3 0x80 0xBF) 0xF1 3 tt (0xF0 + c / 262144) (omega arith) (omega arith) in
          in-4 0x80 0xBF h k lead (omega arith) (omega arith)
      by false e false f =
          let p = ltb-false c 0x100000 f in
          let lead = leads (ranges 3 0x80 0x8F) 0xF4 1 tt (0xF0 + c / 262144) (omega arith) (omega arith) in
          in-4 0x80 0x8F h k lead (omega arith) (omega arith)

  -- THE LAW: every scalar value's bytes are one well-formed sequence, and its code point is the value
  pub encoded : Scalar c → Encoded c s
  encoded sc = by (ltb c 0x80) refl (ltb c 0x800) refl (ltb c 0x10000) refl
    where
      by : (t : Bool) → ltb c 0x80 ≡ t → (u : Bool) → ltb c 0x800 ≡ u → (v : Bool) → ltb c 0x10000 ≡ v → Encoded c s
      by true e u f v g = enc-1 (ltb-true c 0x80 e)
      by false e true f v g = enc-2 (ltb-false c 0x80 e) (ltb-true c 0x800 f)
      by false e false f true g = enc-3 (ltb-false c 0x800 f) (ltb-true c 0x10000 g) sc
      by false e false f false g =
          let p = ltb-false c 0x10000 g in
          enc-4 p (⊎_elim (λ w. omega arith) (λ w. w.1) sc)

-- ---- the characters of a text made of code points are those code points
some : (t u v : Bool) (a b d e : List ℕ) → 0 < length a → 0 < length b → 0 < length d → 0 < length e
    → 0 < length (pick t a (pick u b (pick v d e)))
some true u v a b d e h k l m = h
some false true v a b d e h k l m = k
some false false true a b d e h k l m = l
some false false false a b d e h k l m = m

pub nonempty : (c : ℕ) → 0 < length (encode c)
unfolding encode
nonempty c =
    let two : List ℕ = (0xC0 + c / 64) ∷ (0x80 + c % 64) ∷ [] in
    let three : List ℕ = (0xE0 + c / 4096) ∷ (0x80 + c / 64 % 64) ∷ (0x80 + c % 64) ∷ [] in
    let four : List ℕ = (0xF0 + c / 262144) ∷ (0x80 + c / 4096 % 64) ∷ (0x80 + c / 64 % 64) ∷ (0x80 + c % 64) ∷ [] in
    let long = some (ltb c 0x80) (ltb c 0x800) (ltb c 0x10000) (c ∷ []) two three four in
    long (omega arith) (omega arith) (omega arith) (omega arith)

-- the first character of a text that begins with a scalar value
pub chars-encode : (c : ℕ) (s : List ℕ) → Scalar c → chars (encode c ++ s) ≡ char c (length (encode c) - 1) ∷ chars s
chars-encode c s sc =
    let n = nonempty c in
    let w = encoded c s sc in
    let k : length (encode c) ≡ suc (length (encode c) - 1) = omega arith in
    let m : more (encode c ++ s) ≡ length (encode c) - 1 = more_of (encode c ++ s) 0 (length (encode c) - 1) (w.long ∙ k) in
    let p : 0 + 1 + (length (encode c) - 1) ≡ length (encode c) = omega arith in
    let h : 0 < length (encode c ++ s) = omega (arith, length-append (encode c) s) in
    chars-next (encode c ++ s) 0 h ∙ rw (w.code, m, p, drop-append_seam (encode c) s)

abbrev pub char_of : ℕ → Char
char_of c = char c (length (encode c) - 1)

-- the characters of a text of scalar values are these
pub chars-all : {cs : List ℕ} → Scalars cs → chars (encode_all cs) ≡ map char_of cs
unfolding encode_all chars chars_from
chars-all empty = refl
chars-all (point {c = c} {cs = cs} h hs) = chars-encode c (encode_all cs) h ∙ ap (λ (l : List Char). char_of c ∷ l) (chars-all hs)

-- ---- THE LAW: a text of scalar values is well formed
pub well-formed : {cs : List ℕ} → Scalars cs → up_to (encode_all cs) ≡ length (encode_all cs)
unfolding up_to encode_all scan
well-formed empty = refl
well-formed (point {c = c} {cs = cs} h hs) =
    let n = nonempty c in
    let w = encoded c (encode_all cs) h in
    let k : length (encode c) ≡ suc (length (encode c) - 1) = omega arith in
    let l = length-append (encode c) (encode_all cs) in
    let e = scan-cons seq_len (encode c ++ encode_all cs) (length (encode c) - 1) (w.long ∙ k) (omega (arith, l)) in
    let d : scan seq_len 0 (drop (suc (length (encode c) - 1)) (encode c ++ encode_all cs)) ≡ scan seq_len 0 (encode_all cs) =
    rw (← k, drop-append_seam (encode c) (encode_all cs)) in
    omega (arith, e, d, l, well-formed hs)
