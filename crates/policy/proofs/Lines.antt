-- The lines of a text. Assumes nothing.
use mathlib.Core.Path.{◌≡◌, refl, ap, ◌∙◌}
use mathlib.Core.List.{List, [], ◌∷◌, map}
use Prim.Native.Nat.{ℕ, zero, suc, ◌+◌, ◌-◌, ◌≤◌, ◌<◌}
use native.Mathlib.Omega.{arith}
use native.Mathlib.Nat.{add-zero, suc-add, add-suc, le_of_suc-le-suc, not-suc-le-zero}
use lib.ListN.{length, take, drop, length-drop}
use Rattle.text.specs.Lines.{lines, line_len, line_step}
use Rattle.text.proofs.LineLaws.{lines_next as lines-first, line-bounds, Bounds}
use Rattle.text.specs.Piece.{Piece}
use Rattle.policy.specs.Piece.{lines_from, lines_of}

-- ---- the line at the front
lines-skip : (at k : ℕ) (s : List ℕ) → k ≤ length s → lines_from at k s ≡ lines_from (at + k) 0 (drop k s)
unfolding lines_from
lines-skip at zero s h = rw (add-zero at)
lines-skip at (suc k) [] h = absurd (not-suc-le-zero h)
lines-skip at (suc k) (x ∷ s) h = lines-skip (suc at) k s (le_of_suc-le-suc h) ∙ rw (suc-add at k, add-suc at k)

pub lines_next : (at : ℕ) (r : List ℕ) → 0 < length r → lines_from at 0
    r ≡ (record { at = at; bytes = take (line_len r) r }) ∷ lines_from (at + line_step r) 0 (drop (line_step r) r)
unfolding lines_from
lines_next at [] h = absurd (omega arith)
lines_next at (x ∷ s) h = by (line_step (x ∷ s)) refl (line-bounds (x ∷ s) 0 h)
  where
    by : (n : ℕ) → line_step (x ∷ s) ≡ n → Bounds (x ∷ s) 0
        → lines_from at 0 (x ∷ s) ≡ (record { at = at; bytes = take (line_len (x ∷ s)) (x ∷ s) }) ∷ lines_from (at + n) 0 (drop n (x ∷ s))
    by zero e b = absurd (omega (arith, b.more))
    by (suc k) e b =
        let z : suc k - 1 ≡ k = omega arith in
        rw (e, z) (ap (λ (l : List Piece). (record { at = at; bytes = take (line_len (x ∷ s)) (x ∷ s) }) ∷ l)
        (lines-skip (suc at) k s (omega (arith, b.next)) ∙ rw (suc-add at k, add-suc at k)))

pub data EachPiece (P : Piece → Type 0) : List Piece → Type 0 where
  none : EachPiece P []
  more : {p : Piece} {ps : List Piece} → P p → EachPiece P ps → EachPiece P (p ∷ ps)

-- what is left after a line is shorter
pub step_less : (n : ℕ) (r : List ℕ) → length r ≤ suc n → 0 < length r → length (drop (line_step r) r) ≤ n
step_less n r h k = let b = line-bounds r 0 k in omega (arith, length-drop (line_step r) r, b.more, b.next)

-- ---- their bytes are the lines of the text
nothing_left : (at : ℕ) (r : List ℕ) → length r ≤ 0 → map (λ (p : Piece). p.bytes) (lines_from at 0 r) ≡ lines r
unfolding lines_from lines
nothing_left at [] h = refl
nothing_left at (x ∷ r) h = absurd (not-suc-le-zero h)

line-left : (at : ℕ) (r : List ℕ)
    → (0 < length r → map (λ (p : Piece). p.bytes) (lines_from (at + line_step r) 0 (drop (line_step r) r)) ≡ lines (drop (line_step r) r))
    → map (λ (p : Piece). p.bytes) (lines_from at 0 r) ≡ lines r
line-left at [] ih = nothing_left at [] (omega arith)
line-left at (x ∷ r) ih =
    rw (lines_next at (x ∷ r) (omega arith), lines-first (x ∷ r) (omega arith))
    (ap (λ (ls : List (List ℕ)). take (line_len (x ∷ r)) (x ∷ r) ∷ ls) (ih (omega arith)))

all_left : (n at : ℕ) (r : List ℕ) → length r ≤ n → map (λ (p : Piece). p.bytes) (lines_from at 0 r) ≡ lines r
all_left zero at r h = nothing_left at r h
all_left (suc n) at r h = line-left at r (λ k. all_left n (at + line_step r) (drop (line_step r) r) (step_less n r h k))

pub lines-bytes : (s : List ℕ) → map (λ (p : Piece). p.bytes) (lines_of s) ≡ lines s
unfolding lines_of
lines-bytes s = all_left (length s) 0 s (omega arith)
