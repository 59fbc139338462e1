-- Laws of bytes that are put into a buffer one after another. Assumes nothing.
use Prim.Native.Nat.{ℕ, zero, suc, ◌+◌, ◌-◌, ◌*◌, ◌/◌, ◌%◌, ◌^◌, ◌≤◌, ◌<◌}
use native.Mathlib.Nat.{add-zero, div-one, div-div-eq-div-mul, pow-suc}
use borrow.Rule.Slice.PartMut.{put_mid}
use Rattle.std.specs.Int.{to_le_bytes, bytes_low_first}
use Rattle.std.proofs.Common.{w64}
use native.Mathlib.Numerals.{add-one}
use native.Mathlib.Omega.{arith}
use mathlib.Core.Path.{◌≡◌, refl, sym, ap, ◌∙◌}
use mathlib.Core.List.{List, [], ◌∷◌, ◌++◌, append_assoc, append-nil}
use lib.ListN.{length, take, drop, set, get_or, length-append, take-append-drop, drop_of_length-le}
use lib.Seq.{take-suc-set, drop-set-lt, drop-cons, take_at, drop-append-add, drop-drop, length-take-le, append_snoc}
use borrow.Author.Tests.{le-leb, lt-leb}
use Rattle.table.specs.Table.{cells, put}
use Rattle.table.proofs.Cells.{row-starts, row-past}
use Rattle.output.specs.Cells.{low_bytes, cell_bytes, Puts}
use Rattle.output.proofs.CellLaws.{length-low}

-- nothing is put
pub put-none : (d : List ℕ) (at : ℕ) → put d at [] ≡ d
unfolding put
put-none d at =
    ap (λ (l : List ℕ). l ++ drop (at + 0) d) (append-nil (take at d))
    ∙ ap (λ (k : ℕ). take at d ++ drop k d) (add-zero at)
    ∙ take-append-drop at d

-- the first is put, then the others after it
pub put-cons : (d : List ℕ) (at v : ℕ) (vs : List ℕ) → at < length d → put (set d at v) (at + 1) vs ≡ put d at (v ∷ vs)
unfolding put
put-cons d at v vs h =
    let past : at + 1 + length vs ≡ at + suc (length vs) = omega arith in
    ap (λ (k : ℕ). take k (set d at v) ++ vs ++ drop (at + 1 + length vs) (set d at v)) (add-one at)
    ∙ ap (λ (l : List ℕ). l ++ vs ++ drop (at + 1 + length vs) (set d at v)) (take-suc-set d at v h)
    ∙ ap (λ (l : List ℕ). l ++ drop (at + 1 + length vs) (set d at v)) (append_snoc (take at d) v vs)
    ∙ ap (λ (l : List ℕ). take at d ++ (v ∷ vs) ++ l) (drop-set-lt (at + 1 + length vs) d at v (omega arith))
    ∙ ap (λ (k : ℕ). take at d ++ (v ∷ vs) ++ drop k d) past

-- some are put, then the others after them
pub put-append : (d : List ℕ) (at : ℕ) (xs ys : List ℕ) → at + length xs ≤ length d
    → put (put d at xs) (at + length xs) ys ≡ put d at (xs ++ ys)
unfolding put
put-append d at xs ys h =
    let front : List ℕ = take at d ++ xs in
    let back : List ℕ = drop (at + length xs) d in
    let long : length front ≡ at + length xs = length-append (take at d) xs ∙ omega (arith, length-take-le at d (omega arith)) in
    let reach : at + length xs + length ys ≡ at + length (xs ++ ys) = omega (arith, length-append xs ys) in
    let past : drop (at + length xs + length ys) (front ++ back) ≡ drop (at + length (xs ++ ys)) d =
    ap (λ (k : ℕ). drop (k + length ys) (front ++ back)) (sym long)
    ∙ drop-append-add front back (length ys)
    ∙ drop-drop (length ys) (at + length xs) d
    ∙ ap (λ (k : ℕ). drop k d) reach in
    ap (λ (l : List ℕ). l ++ ys ++ drop (at + length xs + length ys) (front ++ back)) (take_at front back (at + length xs) long)
    ∙ ap (λ (l : List ℕ). l ++ drop (at + length xs + length ys) (front ++ back)) (append_assoc (take at d) xs ys)
    ∙ ap (λ (l : List ℕ). take at d ++ (xs ++ ys) ++ l) past

-- ---- a cell's bytes, as the library gives them
low-from : (i k n : ℕ) → bytes_low_first i k n ≡ low_bytes k (n / 256 ^ i)
unfolding low_bytes
low-from i zero n = refl
low-from zero (suc k) n = rw (div-one n) (ap (λ (l : List ℕ). n % 256 ∷ l) (low-from 1 k n))
low-from (suc i) (suc k) n =
    let z : n / 256 ^ suc i / 256 ≡ n / 256 ^ suc (suc i) =
    div-div-eq-div-mul n (256 ^ suc i) 256 ∙ ap (λ (m : ℕ). n / m) (sym (pow-suc 256 (suc i))) in
    rw z (ap (λ (l : List ℕ). n / 256 ^ suc i % 256 ∷ l) (low-from (suc (suc i)) k n))

pub low-first : (n : ℕ) → to_le_bytes w64 n ≡ low_bytes 8 n
low-first n = low-from 0 8 n ∙ ap (low_bytes 8) (div-one n)

-- and put over eight bytes of the buffer
pub put-over : (d : List ℕ) (at k n : ℕ) {x : List ℕ} → k ≡ 8 → x ≡ to_le_bytes w64 n → put_mid at k d x ≡ put d at (low_bytes 8 n)
unfolding put
put-over d at k n {x} e q =
    let z : x ≡ low_bytes 8 n = q ∙ low-first n in
    rw (z, e, length-low 8 n, ← drop-drop 8 at d) (sym (append_assoc (take at d) (low_bytes 8 n) (drop 8 (drop at d))))

-- a cell is put, then those after it
module _ (l : List ℕ) where
  pub cell-turn : (d : List ℕ) (o i : ℕ) → i < length l → o + 8 ≤ length d
      → put (put d o (low_bytes 8 (get_or l i 0))) (o + 8) (cell_bytes (drop (i + 1) l)) ≡ put d o (cell_bytes (drop i l))
  unfolding cells
  cell-turn d o i h k =
      let x : ℕ = get_or l i 0 in
      let this : drop i l ≡ x ∷ drop (i + 1) l = drop-cons l i 0 h ∙ ap (λ (j : ℕ). x ∷ drop j l) (sym (add-one i)) in
      ap (λ (j : ℕ). put (put d o (low_bytes 8 x)) (o + j) (cell_bytes (drop (i + 1) l))) (sym (length-low 8 x))
      ∙ put-append d o (low_bytes 8 x) (cell_bytes (drop (i + 1) l)) (omega (arith, length-low 8 x))
      ∙ ap (λ (s : List ℕ). put d o (cell_bytes s)) (sym this)

  pub cells-done : (d : List ℕ) (o i : ℕ) → length l ≤ i → put d o (cell_bytes (drop i l)) ≡ d
  unfolding cells
  cells-done d o i h = ap (λ (s : List ℕ). put d o (cell_bytes s)) (drop_of_length-le l h) ∙ put-none d o

-- by division: n cells have room in so many bytes from `at` on, or not
pub cells_fit : {long at n : ℕ} → at ≤ long → n ≤ (long - at) / 8 → at + n * 8 ≤ long
cells_fit {long} {at} {n} h k = omega (arith, row-starts (long - at) 8 n k)

pub cells-leave : {long at n : ℕ} → at ≤ long → (long - at) / 8 < n → long < at + n * 8
cells-leave {long} {at} {n} h k = omega (arith, row-past (long - at) 8 n (omega arith) k)

-- all of them fit, or not
module _ (l d : List ℕ) (at : ℕ) where
  pub puts-all : {x : List ℕ} {r : ℕ} → at + length l * 8 ≤ length d → r ≡ at + length l * 8 → x ≡ put d at (cell_bytes l) → Puts l at d r x
  puts-all h e f = let t = le-leb (at + length l * 8) (length d) h in record { next = rw t e; output = rw t f }

  pub puts_none : length d < at + length l * 8 → Puts l at d at d
  puts_none h = let t = lt-leb (at + length l * 8) (length d) h in record { next = rw t; output = rw t }
