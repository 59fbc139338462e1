-- Laws of cells as bytes: how many there are, and that they give the cells back. Assumes nothing.
use Prim.Native.Nat.{ℕ, zero, suc, ◌+◌, ◌*◌, ◌/◌, ◌%◌, ◌^◌, ◌<◌}
use native.Mathlib.Nat.{div-add-mod', div-lt_iff_lt-mul, pow-suc}
use native.Mathlib.Omega.{arith}
use mathlib.Core.Path.{◌≡◌, refl, sym, ap, ap₂, ◌∙◌, subst}
use mathlib.Core.List.{List, [], ◌∷◌, ◌++◌, append_assoc}
use lib.ListN.{length, take, drop}
use lib.Seq.{take_at, drop_at}
use Rattle.table.specs.Table.{cells}
use Rattle.table.proofs.Laws.{length-cells}
use Rattle.refusal.specs.Each.{Each, each-cons}
use Rattle.output.specs.Cells.{low_bytes, cell_bytes}

example : cell_bytes (624485 ∷ 256 ∷ []) ≡ 0x65 ∷ 0x87 ∷ 0x09 ∷ 0 ∷ 0 ∷ 0 ∷ 0 ∷ 0 ∷ 0 ∷ 1 ∷ 0 ∷ 0 ∷ 0 ∷ 0 ∷ 0 ∷ 0 ∷ []
unfolding low_bytes cells
example = refl

pub length-low : (k n : ℕ) → length (low_bytes k n) ≡ k
unfolding low_bytes
length-low zero n = refl
length-low (suc k) n = ap suc (length-low k (n / 256))

pub length-bytes : (l : List ℕ) → length (cell_bytes l) ≡ length l * 8
length-bytes l = length-cells (low_bytes 8) 8 (length-low 8) l

pub bytes-append : (l m : List ℕ) → cell_bytes (l ++ m) ≡ cell_bytes l ++ cell_bytes m
unfolding cells
bytes-append [] m = refl
bytes-append (x ∷ l) m =
    ap (λ (s : List ℕ). low_bytes 8 x ++ s) (bytes-append l m) ∙ sym (append_assoc (low_bytes 8 x) (cell_bytes l) (cell_bytes m))

-- the number that bytes are, the lowest first
abbrev pub value_of : List ℕ → ℕ
value_of [] = 0
value_of (b ∷ s) = value_of s * 256 + b

pub value_low : (k n : ℕ) → n < 256 ^ k → value_of (low_bytes k n) ≡ n
unfolding low_bytes
value_low zero n h = omega arith
value_low (suc k) n h =
    let less : n < 256 ^ k * 256 = subst (λ (m : ℕ). n < m) (pow-suc 256 k) h in
    ap (λ (m : ℕ). m * 256 + n % 256) (value_low k (n / 256) ((div-lt_iff_lt-mul {k = 256} {x = n} {y = 256 ^ k} (omega arith)).1 less))
    ∙ div-add-mod' n 256

-- the bytes of cells tell the cells
module _ (x y : ℕ) (l m : List ℕ) (e : low_bytes 8 x ++ cell_bytes l ≡ low_bytes 8 y ++ cell_bytes m) where
  first-known : x < 256 ^ 8 → y < 256 ^ 8 → x ≡ y
  first-known h k =
      sym (value_low 8 x h)
      ∙ ap value_of
      (sym (take_at (low_bytes 8 x) (cell_bytes l) 8 (length-low 8 x)) ∙ ap (take 8) e
      ∙ take_at (low_bytes 8 y) (cell_bytes m) 8 (length-low 8 y))
      ∙ value_low 8 y k

  others-known : cell_bytes l ≡ cell_bytes m
  others-known =
      sym (drop_at (low_bytes 8 x) (cell_bytes l) 8 (length-low 8 x)) ∙ ap (drop 8) e
      ∙ drop_at (low_bytes 8 y) (cell_bytes m) 8 (length-low 8 y)

abbrev pub Small : ℕ → Type 0
Small n = n < 256 ^ 8

pub bytes-known : (l m : List ℕ) → Each Small l → Each Small m → cell_bytes l ≡ cell_bytes m → l ≡ m
unfolding cells
bytes-known [] [] h k e = refl
bytes-known [] (y ∷ m) h k e = absurd (omega (arith, ap length e, length-bytes (y ∷ m)))
bytes-known (x ∷ l) [] h k e = absurd (omega (arith, ap length e, length-bytes (x ∷ l)))
bytes-known (x ∷ l) (y ∷ m) (each-cons h hs) (each-cons k ks) e =
    ap₂ (λ (z : ℕ) (s : List ℕ). z ∷ s) (first-known x y l m e h k) (bytes-known l m hs ks (others-known x y l m e))
