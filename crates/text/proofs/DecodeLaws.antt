-- Every well-formed text is the encoding of scalar values, and of no others. Assumes nothing.
use mathlib.Core.Path.{◌≡◌, refl, sym, ap, ◌∙◌}
use mathlib.Core.Logic.{◌⊎◌, inl, inr, ⊎_elim}
use mathlib.Core.Bool.{Bool, true, false, false≢true}
use mathlib.Core.List.{List, [], ◌∷◌, ◌++◌, map}
use Prim.Native.Nat.{ℕ, ◌+◌, ◌*◌, ◌/◌, ◌%◌, ◌≤◌, ◌<◌, suc, ◌-◌, zero}
use native.Mathlib.Omega.{arith}
use lib.Dec.{leb}
use lib.ListN.{length, take, take-append-drop, drop}
use borrow.Author.Tests.{leb-true, lt-ltb, le-ltb}
use Rattle.refusal.specs.Pick.{pick, within}
use Rattle.text.specs.Ranges.{Range, ◌to◌}
use Rattle.text.specs.Encode.{Scalars, empty, point, encode_all, Scalar, encode}
use Rattle.text.specs.Scan.{scan}
use Rattle.text.specs.Chars.{Char, char, chars, code_of, code_by}
use Rattle.text.specs.Claims.{Decoded}
use Rattle.text.specs.Utf8.{followers, after, seq_len, up_to, Utf8Row, row, Follow, none, these, follow_in, covers, utf8_table}
use Rattle.text.proofs.EncodeLaws.{char_of, chars-all}
use Rattle.text.proofs.Laws.{both_one, both-two}

-- ---- a code point from the low bits of its bytes, and those bits again
two_back : (x y : ℕ) → y < 64 → ((x * 64 + y) / 64 ≡ x) × ((x * 64 + y) % 64 ≡ y)
two_back x y h = (omega arith, omega arith)

record Three (c x y z : ℕ) : Type 0 where
  high : c / 4096 ≡ x
  mid : c / 64 % 64 ≡ y
  low : c % 64 ≡ z

three_back : (x y z : ℕ) → y < 64 → z < 64 → Three ((x * 64 + y) * 64 + z) x y z
three_back x y z p q =
    let m : ((x * 64 + y) * 64 + z) / 64 ≡ x * 64 + y = omega arith in
    record { high = omega arith; mid = rw m (omega arith); low = omega arith }

record Four (c x y z w : ℕ) : Type 0 where
  high : c / 262144 ≡ x
  rest : c / 4096 % 64 ≡ y
  mid : c / 64 % 64 ≡ z
  low : c % 64 ≡ w

four-back : (x y z w : ℕ) → y < 64 → z < 64 → w < 64 → Four (((x * 64 + y) * 64 + z) * 64 + w) x y z w
four-back x y z w p q r =
    let m : (((x * 64 + y) * 64 + z) * 64 + w) / 64 ≡ (x * 64 + y) * 64 + z = omega arith in
    let n : (((x * 64 + y) * 64 + z) * 64 + w) / 4096 ≡ x * 64 + y = omega arith in
    record { high = omega arith; rest = rw n (omega arith); mid = rw m (omega arith); low = omega arith }

-- ---- the first byte's row, and the bytes that the row covers
data Chosen (a : ℕ) : List Utf8Row → Follow → Type 0 where
  nowhere : Chosen a [] none
  here : {lo hi : ℕ} {rs : List Range} {rows : List Utf8Row} → lo ≤ a → a ≤ hi → Chosen a (row (lo to hi) rs ∷ rows) (these rs)
  there : {r : Range} {rs : List Range} {rows : List Utf8Row} {f : Follow} → Chosen a rows f → Chosen a (row r rs ∷ rows) f

chosen : (a : ℕ) (rows : List Utf8Row) → Chosen a rows (follow_in rows a)
unfolding follow_in
chosen a [] = nowhere
chosen a (row (lo to hi) rs ∷ rows) = by (within lo hi a) refl (chosen a rows)
  where
    by : (t : Bool) → within lo hi a ≡ t → Chosen a rows (follow_in rows a)
        → Chosen a (row (lo to hi) rs ∷ rows) (pick t (these rs) (follow_in rows a))
    by true e ih = here (leb-true lo a (both_one (leb lo a) (leb a hi) e)) (leb-true a hi (both-two (leb lo a) (leb a hi) e))
    by false e ih = there ih

data Covered : List Range → List ℕ → Type 0 where
  done : {s : List ℕ} → Covered [] s
  byte : {lo hi x : ℕ} {rs : List Range} {s : List ℕ} → lo ≤ x → x ≤ hi → Covered rs s → Covered (lo to hi ∷ rs) (x ∷ s)

covered : (rs : List Range) (s : List ℕ) → covers rs s ≡ true → Covered rs s
unfolding covers
covered [] s e = done
covered (r ∷ rs) [] e = absurd (false≢true e)
covered ((lo to hi) ∷ rs) (x ∷ s) e =
    let i = both_one (within lo hi x) (covers rs s) e in
    byte (leb-true lo x (both_one (leb lo x) (leb x hi) i)) (leb-true x hi (both-two (leb lo x) (leb x hi) i))
    (covered rs s (both-two (within lo hi x) (covers rs s) e))

-- ---- the sequence at the front is the encoding of its code point, a scalar value
record Sequence (a : ℕ) (s : List ℕ) (k : ℕ) : Type 0 where
  scalar : Scalar (code_by (suc k) (a ∷ s))
  bytes : encode (code_by (suc k) (a ∷ s)) ≡ a ∷ take k s

seq-1 : (a : ℕ) (s : List ℕ) → a < 0x80 → Sequence a s 0
unfolding code_by encode
seq-1 a s h =
    let e : a % 128 ≡ a = omega arith in
    record { scalar = rw e (inl (omega arith)); bytes = rw (e, lt-ltb a 0x80 h) }

seq-2 : (a b : ℕ) (s : List ℕ) → 0xC2 ≤ a → a < 0xE0 → 0x80 ≤ b → b < 0xC0 → Sequence a (b ∷ s) 1
unfolding code_by encode
seq-2 a b s h i j k =
    let x : a % 32 ≡ a - 0xC0 = omega arith in
    let y : b % 64 ≡ b - 0x80 = omega arith in
    let c = (a - 0xC0) * 64 + (b - 0x80) in
    let n = two_back (a - 0xC0) (b - 0x80) (omega arith) in
    let p : 0xC0 + (a - 0xC0) ≡ a = omega arith in
    let q : 0x80 + (b - 0x80) ≡ b = omega arith in
    record {
      scalar = rw (x, y) (inl (omega arith));
      bytes = rw (x, y) (rw (le-ltb c 0x80 (omega arith), lt-ltb c 0x800 (omega arith), n.0, n.1, p, q));
    }

-- three bytes: no overlong form, no surrogate
seq-3 : (a b d : ℕ) (s : List ℕ) → 0xE0 ≤ a → a < 0xF0 → 0x80 ≤ b → b < 0xC0 → 0x80 ≤ d → d < 0xC0
    → 0x800 ≤ (a - 0xE0) * 4096 + (b - 0x80) * 64
    → ((a - 0xE0) * 4096 + (b - 0x80) * 64 < 0xD800) ⊎ (0xE000 ≤ (a - 0xE0) * 4096 + (b - 0x80) * 64)
    → Sequence a (b ∷ d ∷ s) 2
unfolding code_by encode
seq-3 a b d s h i j k l m long sur =
    let x : a % 16 ≡ a - 0xE0 = omega arith in
    let y : b % 64 ≡ b - 0x80 = omega arith in
    let z : d % 64 ≡ d - 0x80 = omega arith in
    let c = ((a - 0xE0) * 64 + (b - 0x80)) * 64 + (d - 0x80) in
    let n = three_back (a - 0xE0) (b - 0x80) (d - 0x80) (omega arith) (omega arith) in
    let p : 0xE0 + (a - 0xE0) ≡ a = omega arith in
    let q : 0x80 + (b - 0x80) ≡ b = omega arith in
    let r : 0x80 + (d - 0x80) ≡ d = omega arith in
    record {
      scalar = rw (x, y, z) (⊎_elim (λ u. inl (omega arith)) (λ u. inr (omega arith, omega arith)) sur);
      bytes = rw (x, y, z)
          (rw (
            le-ltb c 0x80 (omega arith),
            le-ltb c 0x800 (omega arith),
            lt-ltb c 0x10000 (omega arith),
            n.high,
            n.mid,
            n.low,
            p,
            q,
            r,
          ));
    }

-- four bytes: no overlong form, none above 10FFFF
seq-4 : (a b d e : ℕ) (s : List ℕ) → 0xF0 ≤ a → a < 0xF5 → 0x80 ≤ b → b < 0xC0 → 0x80 ≤ d → d < 0xC0 → 0x80 ≤ e → e < 0xC0
    → 0x10 ≤ (a - 0xF0) * 64 + (b - 0x80) → (a - 0xF0) * 64 + (b - 0x80) < 0x110 → Sequence a (b ∷ d ∷ e ∷ s) 3
unfolding code_by encode
seq-4 a b d e s h i j k l m f g long short =
    let x : a % 8 ≡ a - 0xF0 = omega arith in
    let y : b % 64 ≡ b - 0x80 = omega arith in
    let z : d % 64 ≡ d - 0x80 = omega arith in
    let w : e % 64 ≡ e - 0x80 = omega arith in
    let c = (((a - 0xF0) * 64 + (b - 0x80)) * 64 + (d - 0x80)) * 64 + (e - 0x80) in
    let n = four-back (a - 0xF0) (b - 0x80) (d - 0x80) (e - 0x80) (omega arith) (omega arith) (omega arith) in
    let o : 0xF0 + (a - 0xF0) ≡ a = omega arith in
    let p : 0x80 + (b - 0x80) ≡ b = omega arith in
    let q : 0x80 + (d - 0x80) ≡ d = omega arith in
    let r : 0x80 + (e - 0x80) ≡ e = omega arith in
    let t₁ = le-ltb c 0x80 (omega arith) in
    let t₂ = le-ltb c 0x800 (omega arith) in
    let t₃ = le-ltb c 0x10000 (omega arith) in
    record {
      scalar = rw (x, y, z, w) (inr (omega arith, omega arith));
      bytes = rw (x, y, z, w) (rw (t₁, t₂, t₃, n.high, n.rest, n.mid, n.low, o, p, q, r));
    }

-- by the rows of the table
by_rows : {a : ℕ} {s : List ℕ} {rs : List Range} → Chosen a utf8_table (these rs) → Covered rs s → Sequence a s (length rs)
unfolding utf8_table
by_rows {a} {s} (here p q) done = seq-1 a s (omega arith)
by_rows (there (here p q)) (byte l m done) = seq-2 _ _ _ p (omega arith) l (omega arith)
by_rows (there (there (here p q))) (byte l m (byte u v done)) =
    seq-3 _ _ _ _ (omega arith) (omega arith) (omega arith) (omega arith) u (omega arith) (omega arith) (inl (omega arith))
by_rows (there (there (there (here p q)))) (byte l m (byte u v done)) =
    seq-3 _ _ _ _ (omega arith) (omega arith) (omega arith) (omega arith) u (omega arith) (omega arith) (inl (omega arith))
by_rows (there (there (there (there (here p q))))) (byte l m (byte u v done)) =
    seq-3 _ _ _ _ (omega arith) (omega arith) (omega arith) (omega arith) u (omega arith) (omega arith) (inl (omega arith))
by_rows (there (there (there (there (there (here p q)))))) (byte l m (byte u v done)) =
    seq-3 _ _ _ _ (omega arith) (omega arith) (omega arith) (omega arith) u (omega arith) (omega arith) (inr (omega arith))
by_rows (there (there (there (there (there (there (here p q))))))) (byte l m (byte u v (byte x y done))) =
    seq-4 _ _ _ _ _ (omega arith) (omega arith) (omega arith) (omega arith) u (omega arith) x (omega arith) (omega arith) (omega arith)
by_rows (there (there (there (there (there (there (there (here p q)))))))) (byte l m (byte u v (byte x y done))) =
    seq-4 _ _ _ _ _ (omega arith) (omega arith) (omega arith) (omega arith) u (omega arith) x (omega arith) (omega arith) (omega arith)
by_rows (there (there (there (there (there (there (there (there (here p q))))))))) (byte l m (byte u v (byte x y done))) =
    seq-4 _ _ _ _ _ (omega arith) (omega arith) (omega arith) (omega arith) u (omega arith) x (omega arith) (omega arith) (omega arith)
by_rows (there (there (there (there (there (there (there (there (there x))))))))) _ = elim x [ ]

-- the sequence that Table 3-7 finds at the front of a text
pub record Fronted (s : List ℕ) (k : ℕ) : Type 0 where
  pub scalar : Scalar (code_of s)
  pub bytes : encode (code_of s) ≡ take k s

pub fronted : (a : ℕ) (s : List ℕ) (k : ℕ) → seq_len (a ∷ s) ≡ suc k → Fronted (a ∷ s) (suc k)
unfolding seq_len code_of after followers
fronted a s k e = by (follow_in utf8_table a) (chosen a utf8_table) e
  where
    long : (rs : List Range) (t : Bool) → covers rs s ≡ t → Chosen a utf8_table (these rs) → pick t (suc (length rs)) 0 ≡ suc k
        → (Scalar (code_by (suc k) (a ∷ s))) × (encode (code_by (suc k) (a ∷ s)) ≡ a ∷ take k s)
    long rs true c f q =
        let n : length rs ≡ k = omega arith in
        let w = by_rows f (covered rs s c) in
        rw (← n) (w.scalar, w.bytes)
    long rs false c f q = absurd (omega arith)

    by : (f : Follow) → Chosen a utf8_table f → after f s ≡ suc k → Fronted (a ∷ s) (suc k)
    by none f q = absurd (omega arith)
    by (these rs) f q = let w = long rs (covers rs s) refl f q in record { scalar = rw e w.0; bytes = rw e w.1 }

-- ---- a whole text
decode-from : (k : ℕ) (s : List ℕ) → scan seq_len k s ≡ length s → Decoded (drop k s)
unfolding scan encode_all
decode-from zero [] e = record { points = []; scalars = empty; bytes = refl }
decode-from (suc k) [] e = record { points = []; scalars = empty; bytes = refl }
decode-from (suc k) (x ∷ s) e = decode-from k s (omega arith)
decode-from zero (x ∷ s) e = by (seq_len (x ∷ s)) refl (λ (k : ℕ). decode-from k s)
  where
    by : (k : ℕ) → seq_len (x ∷ s) ≡ k → ((k : ℕ) → scan seq_len k s ≡ length s → Decoded (drop k s)) → Decoded (x ∷ s)
    by zero q ih = absurd (let z : ◌≡◌ {A = ℕ} 0 (suc (length s)) = rw (q, scan) at e in omega arith)
    by (suc k) q ih =
        let z : suc (scan seq_len k s) ≡ suc (length s) = rw (q, scan) at e in
        let d = ih k (omega arith) in
        let f = fronted x s k q in
        let w : take (suc k) (x ∷ s) ++ drop k s ≡ x ∷ s = take-append-drop (suc k) (x ∷ s) in
        record {
          points = code_of (x ∷ s) ∷ d.points;
          scalars = point f.scalar d.scalars;
          bytes = rw (d.bytes, f.bytes) w;
        }

-- THE LAW: every well-formed text is the encoding of scalar values
pub decoded : (s : List ℕ) → up_to s ≡ length s → Decoded s
unfolding up_to
decoded s e = decode-from 0 s e

-- ---- of no others
unfoldable codes : List Char → List ℕ
codes [] = []
codes (char c m ∷ cs) = c ∷ codes cs

codes-map : (cs : List ℕ) → codes (map char_of cs) ≡ cs
unfolding codes
codes-map [] = refl
codes-map (c ∷ cs) = ap (λ (l : List ℕ). c ∷ l) (codes-map cs)

-- THE LAW: two lists of scalar values with the same bytes are the same
pub encoded-once : {cs ds : List ℕ} → Scalars cs → Scalars ds → encode_all cs ≡ encode_all ds → cs ≡ ds
encoded-once {cs} {ds} h k e =
    sym (ap codes (chars-all h) ∙ codes-map cs) ∙ ap (λ (l : List ℕ). codes (chars l)) e ∙ (ap codes (chars-all k) ∙ codes-map ds)
