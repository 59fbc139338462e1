-- Lines that grow: bytes added one after another are the line of the whole text. Assumes nothing.
use mathlib.Core.Path.{◌≡◌, refl, sym, ap, ◌∙◌}
use mathlib.Core.Bool.{Bool, true, false}
use mathlib.Core.List.{List, [], ◌∷◌, ◌++◌, append_assoc, append-nil}
use Prim.Native.Nat.{ℕ, zero, suc, ◌+◌, ◌≤◌, ◌<◌, min}
use native.Mathlib.Numerals.{add-one}
use native.Mathlib.Omega.{arith}
use lib.Dec.{ltb}
use lib.ListN.{length, drop, get_or, set, drop_of_length-le, length-append}
use lib.Seq.{drop-cons}
use borrow.Author.Tests.{lt-ltb, le-ltb, ltb-true, ltb-false}
use Rattle.refusal.specs.Slug.{padded}
use Rattle.report.specs.declared.line.Line.{Line}
use Rattle.report.specs.Line.{line_of, empty, add_byte, added}

-- ---- a byte
module _ (l : Line) (b : ℕ) where
  pub kept : 128 ≤ l.len → l ≡ add_byte l b
  unfolding add_byte
  kept h = rw (le-ltb l.len 128 h)

  pub longer : l.len < 128 → ◌≡◌ {A = Line} (record { bytes = set l.bytes l.len b; len = l.len + 1 }) (add_byte l b)
  unfolding add_byte
  longer h = rw (lt-ltb l.len 128 h, add-one l.len)

-- ---- bytes one after another
pub turn : (l : Line) (s : List ℕ) (i : ℕ) {m : Line} → i < length s → m ≡ add_byte l (get_or s i 0)
    → added l (drop i s) ≡ added m (drop (i + 1) s)
unfolding added
turn l s i {m} h e = rw (add-one i, drop-cons s i 0 h, e)

pub done : (l : Line) (s : List ℕ) (i : ℕ) → length s ≤ i → added l (drop i s) ≡ l
unfolding added
done l s i h = rw (drop_of_length-le s h)

added-append : (l : Line) (v w : List ℕ) → added (added l v) w ≡ added l (v ++ w)
unfolding added
added-append l [] w = refl
added-append l (b ∷ v) w = added-append (add_byte l b) v w

-- first v, then w
pub then : (l : Line) (v w : List ℕ) {m r : Line} → m ≡ added l v → r ≡ added m w → r ≡ added l (v ++ w)
then l v w {m} {r} e f = f ∙ ap (λ (x : Line). added x w) e ∙ added-append l v w

pub nothing : (l : Line) → l ≡ added l []
unfolding added
nothing l = refl

-- the same bytes
pub same : (l : Line) {v w : List ℕ} {r : Line} → r ≡ added l v → v ≡ w → r ≡ added l w
same l e q = e ∙ ap (λ (x : List ℕ). added l x) q

-- ---- the line of a text
pad-set : (n : ℕ) (w : List ℕ) (b : ℕ) → length w < n → set (padded n w) (length w) b ≡ padded n (w ++ b ∷ [])
unfolding padded
pad-set zero w b h = absurd (omega arith)
pad-set (suc n) [] b h = refl
pad-set (suc n) (c ∷ w) b h = ap (λ (l : List ℕ). c ∷ l) (pad-set n w b (omega arith))

pad-full : (n : ℕ) (w v : List ℕ) → n ≤ length w → padded n w ≡ padded n (w ++ v)
unfolding padded
pad-full zero w v h = refl
pad-full (suc n) [] v h = absurd (omega arith)
pad-full (suc n) (c ∷ w) v h = ap (λ (l : List ℕ). c ∷ l) (pad-full n w v (omega arith))

line-byte : (w : List ℕ) (b : ℕ) → add_byte (line_of w) b ≡ line_of (w ++ b ∷ [])
unfolding line_of
line-byte w b = by (ltb (length w) 128) refl
  where
    many : length (w ++ b ∷ []) ≡ suc (length w)
    many = length-append w (b ∷ []) ∙ add-one (length w)

    by : (t : Bool) → ltb (length w) 128 ≡ t → add_byte (line_of w) b ≡ line_of (w ++ b ∷ [])
    by true q =
        let h : length w < 128 = ltb-true (length w) 128 q in
        let m : min (length w) 128 ≡ length w = omega arith in
        let k : min (length (w ++ b ∷ [])) 128 ≡ length w + 1 = omega (arith, many) in
        sym (longer (line_of w) b (omega arith)) ∙ rw (m, k, pad-set 128 w b h)
    by false q =
        let h : 128 ≤ length w = ltb-false (length w) 128 q in
        let m : min (length w) 128 ≡ 128 = omega arith in
        let k : min (length (w ++ b ∷ [])) 128 ≡ 128 = omega (arith, many) in
        sym (kept (line_of w) b (omega arith)) ∙ rw (m, k, pad-full 128 w (b ∷ []) h)

line-added : (w v : List ℕ) → added (line_of w) v ≡ line_of (w ++ v)
unfolding added
line-added w [] = rw (append-nil w)
line-added w (b ∷ v) = ap (λ (l : Line). added l v) (line-byte w b) ∙ line-added (w ++ b ∷ []) v ∙ rw (append_assoc w (b ∷ []) v)

-- all that was added to the empty line
pub whole : (w : List ℕ) {r : Line} → r ≡ added empty w → r ≡ line_of w
unfolding empty line_of
whole w e = e ∙ line-added [] w
