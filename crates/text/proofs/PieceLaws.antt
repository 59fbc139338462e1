-- Pieces by their ends: what the code's numbers say of them. Assumes nothing.
use mathlib.Core.Path.{◌≡◌, refl, sym, ap, ◌∙◌}
use mathlib.Core.Bool.{Bool, true, false, false≢true}
use mathlib.Core.Logic.{◌⊎◌, inl, inr}
use mathlib.Core.List.{List, [], ◌∷◌, ◌++◌}
use Prim.Native.Nat.{ℕ, zero, suc, ◌+◌, ◌-◌, ◌≤◌, ◌<◌}
use native.Mathlib.Omega.{arith}
use lib.Dec.{eqb, leb}
use lib.ListN.{length, get_or, take, drop, length-drop}
use lib.Seq.{length-take-le, take-take, drop-drop, take-suc, take-nil}
use borrow.Author.Tests.{eq-eqb, ne_eqb, le-leb, lt-leb}
use Rattle.refusal.specs.Pick.{pick, both}
use Rattle.refusal.specs.declared.Part.{Part}
use Rattle.text.specs.Trim.{trim_start, trim_end, trimmed, trim_of}
use Rattle.text.specs.Find.{begins}
use Rattle.text.proofs.Laws.{both-two, both-no}
use Rattle.text.proofs.CharLaws.{end-long, start-long}
use Rattle.text.specs.Piece.{Piece, first, beyond, trim, shorn, bytes_between, piece, span, trimmed_at, TrimTo}
use Rattle.text.specs.declared.pieces.Span.{Span}

pub drop-take : (n m : ℕ) (l : List ℕ) → drop n (take m l) ≡ take (m - n) (drop n l)
drop-take zero m l = let z : m - 0 ≡ m = omega arith in rw z
drop-take (suc n) zero l = let z : 0 - suc n ≡ 0 = omega arith in rw z
drop-take (suc n) (suc m) [] = sym (take-nil (suc m - suc n))
drop-take (suc n) (suc m) (x ∷ l) = let z : suc m - suc n ≡ m - n = omega arith in rw z (drop-take n m l)

module _ (s : List ℕ) (a e : ℕ) where
  pub piece-long : e ≤ length s → length (take (e - a) (drop a s)) ≡ e - a
  piece-long h = length-take-le (e - a) (drop a s) (omega (arith, length-drop a s))

  pub first_piece : (n : ℕ) → n ≤ e - a → first n (piece s a e) ≡ piece s a (a + n)
  first_piece n h =
      let z : a + n - a ≡ n = omega arith in
      rw (z, take-take n (e - a) (drop a s) h)

  pub beyond-piece : (n : ℕ) → beyond n (piece s a e) ≡ piece s (a + n) e
  beyond-piece n =
      let z : e - a - n ≡ e - (a + n) = omega arith in
      rw (drop-take n (e - a) (drop a s), drop-drop n a s, z)

-- the code's two numbers, found on the slice from a to e
pub trim-is : (s : List ℕ) (a e : ℕ) (t : Part) → a ≤ e → e ≤ length s → t ≡ trimmed (bytes_between s a e)
    → TrimTo s a e (a + t.from) (a + t.from + t.len)
unfolding trimmed trim
trim-is s a e t h k q =
    let b = bytes_between s a e in
    let m = trim_start b in
    let n = trim_end (drop m b) in
    let l = piece-long s a e k in
    let i : m + n ≤ e - a = omega (arith, start-long b, end-long (drop m b), length-drop m b) in
    let x : first n (beyond m (piece s a e)) ≡ piece s (a + m) (a + m + n) =
    ap (first n) (beyond-piece s a e m) ∙ first_piece s (a + m) e n (omega arith) in
    rw q (record { low = omega arith; mid = omega arith; high = omega arith; same = x })

-- by the ends that the code hands back
module _ (s : List ℕ) (a e : ℕ) where
  pub trim-none : (e < a) ⊎ (length s < e) → span 0 0 ≡ trimmed_at s a e
  unfolding trimmed_at
  trim-none (inl h) = rw (lt-leb a e h)
  trim-none (inr h) = rw (lt-leb e (length s) h, both-no (leb a e))

  module _ (h : a ≤ e) (k : e ≤ length s) where
    pub trim-ends : {f g : ℕ} → TrimTo s a e f g → span f g ≡ trimmed_at s a e
    unfolding trimmed_at
    trim-ends {f} {g} t =
        let l = piece-long s f g (omega (arith, t.high)) in
        let z : f + (g - f) ≡ g = omega (arith, t.mid) in
        rw (le-leb a e h, le-leb e (length s) k, t.same, l, z)

    pub trim-to : {r : Span} → r ≡ trimmed_at s a e → TrimTo s a e r.from r.past
    trim-to q =
        let t = trim-is s a e (trimmed (bytes_between s a e)) h k refl in
        rw (q, ← trim-ends t) t

-- what is trimmed of a piece's bytes
pub trim-bytes : (p : Piece) → (trim p).bytes ≡ trim_of p.bytes
unfolding trim trim_of
trim-bytes p = refl

-- ---- lengths
pub shorn-le : (b : ℕ) (s : List ℕ) → shorn b s ≤ length s
unfolding shorn
shorn-le b [] = omega arith
shorn-le b (x ∷ s) = by (both (eqb x b) (eqb (shorn b s) 0)) (shorn-le b s)
  where
    by : (t : Bool) → shorn b s ≤ length s → pick t 0 (suc (shorn b s)) ≤ suc (length s)
    by true h = omega arith
    by false h = omega arith

pub begins-le : (w s : List ℕ) → begins w s ≡ true → length w ≤ length s
unfolding begins
begins-le [] s e = omega arith
begins-le (c ∷ w) [] e = absurd (false≢true e)
begins-le (c ∷ w) (x ∷ s) e = let h = begins-le w s (both-two (eqb x c) (begins w s) e) in omega arith

-- ---- a byte taken off the end, in a loop down
snoc-same : (b : ℕ) (w : List ℕ) → shorn b (w ++ b ∷ []) ≡ shorn b w
unfolding shorn
snoc-same b [] = rw (eq-eqb b b refl)
snoc-same b (x ∷ w) = rw (snoc-same b w)

snoc-other : (b : ℕ) (w : List ℕ) (y : ℕ) → eqb y b ≡ false → shorn b (w ++ y ∷ []) ≡ suc (length w)
unfolding shorn
snoc-other b [] y e = rw e
snoc-other b (x ∷ w) y e = rw (snoc-other b w y e, ne_eqb (suc (length w)) 0 (λ z. omega arith)) (by (eqb x b))
  where
    by : (t : Bool) → pick (both t false) 0 (suc (suc (length w))) ≡ suc (suc (length w))
    by true = refl
    by false = refl

module _ (b : ℕ) (s : List ℕ) (n : ℕ) (k : 0 < n) (h : n ≤ length s) where
  last_one : take n s ≡ take (n - 1) s ++ get_or s (n - 1) 0 ∷ []
  last_one =
      let z : suc (n - 1) ≡ n = omega arith in
      rw z at (take-suc s (n - 1) 0 (omega arith))

  pub shorn-same : get_or s (n - 1) 0 ≡ b → shorn b (take n s) ≡ shorn b (take (n - 1) s)
  shorn-same e = ap (shorn b) last_one ∙ rw e (snoc-same b (take (n - 1) s))

  pub shorn-other : (get_or s (n - 1) 0 ≡ b → ⊥) → shorn b (take n s) ≡ n
  shorn-other e =
      ap (shorn b) last_one ∙ snoc-other b (take (n - 1) s) (get_or s (n - 1) 0) (ne_eqb (get_or s (n - 1) 0) b e)
      ∙ (let l = length-take-le (n - 1) s (omega arith) in omega arith)
