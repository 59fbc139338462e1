-- The bytes of a text that is held by value. Assumes nothing.
use mathlib.Core.Path.{◌≡◌, refl, ap}
use mathlib.Core.List.{List, [], ◌∷◌}
use Prim.Native.Nat.{ℕ, zero, suc, ◌+◌, ◌≤◌, min}
use native.Mathlib.Omega.{arith}
use lib.ListN.{length, take}
use borrow.Author.Tests.{le-leb}
use Rattle.refusal.specs.Slug.{padded}
use Rattle.table.specs.Table.{range_of}
use Rattle.report.specs.declared.line.Line.{Line}
use Rattle.report.specs.Line.{line_of}

pad-long : (n : ℕ) (w : List ℕ) → length (padded n w) ≡ n
unfolding padded
pad-long zero w = refl
pad-long (suc n) [] = ap suc (pad-long n [])
pad-long (suc n) (c ∷ w) = ap suc (pad-long n w)

pad-take : (n : ℕ) (w : List ℕ) → length w ≤ n → take (length w) (padded n w) ≡ w
unfolding padded
pad-take zero [] h = refl
pad-take zero (c ∷ w) h = absurd (omega arith)
pad-take (suc n) [] h = refl
pad-take (suc n) (c ∷ w) h = ap (λ (l : List ℕ). c ∷ l) (pad-take n w (omega arith))

range-padded : (n : ℕ) (w : List ℕ) → length w ≤ n → range_of (padded n w) 0 (min (length w) n) ≡ w
unfolding range_of
range-padded n w h =
    let m : min (length w) n ≡ length w = omega arith in
    rw (m, le-leb (0 + length w) (length (padded n w)) (omega (arith, pad-long n w))) (pad-take n w h)

pub line-text : (w : List ℕ) {l : Line} → length w ≤ 128 → l ≡ line_of w → range_of l.bytes 0 l.len ≡ w
unfolding line_of
line-text w h e = rw e (range-padded 128 w h)
