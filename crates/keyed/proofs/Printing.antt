-- Prints of names. Assumes nothing.
use mathlib.Core.Path.{◌≡◌, refl, sym, ◌∙◌, ap}
use mathlib.Core.List.{List}
use Prim.Native.Nat.{ℕ, ◌+◌, ◌-◌, ◌*◌, ◌%◌, ◌≤◌, ◌<◌}
use native.Mathlib.Omega.{arith}
use borrow.Author.Tests.{lt-ltb, le-ltb}
use lib.ListN.{length, drop, get_or}
use Rattle.text.proofs.Laws.{left-next, left-none}
use Rattle.table.specs.Table.{cell_of, range_of, laid, cells, rows_of}
use Rattle.table.proofs.Laws.{cell-laid, length-rows}
use Rattle.table.proofs.Cells.{cell-there}
use Rattle.keyed.specs.Keying.{single, name_in}
use Rattle.keyed.proofs.Missing.{row_of}
use Rattle.keyed.proofs.Sameness.{same_names, same-majors, same-minors}
use Rattle.keyed.specs.Quick.{mixed_print, and_number, ends_print, print_at, Printed}

-- ---- prints of what is left of some bytes
module _ (p : ℕ) (s : List ℕ) (i : ℕ) where
  pub mix_next : i < length s → mixed_print p (drop i s) ≡ mixed_print ((p * 2654435761 + get_or s i 0) % 4294967296) (drop (i + 1) s)
  unfolding mixed_print
  mix_next h = rw (left-next s i h)

  pub mix-end : length s ≤ i → mixed_print p (drop i s) ≡ p
  unfolding mixed_print
  mix-end h = rw (left-none s i h)

pub stir-is : (p n : ℕ) → (p * 2654435761 + n % 4294967296) % 4294967296 ≡ and_number p n
unfolding and_number
stir-is p n = refl

module _ (s : List ℕ) where
  pub print-short : {r : ℕ} → length s < 8 → r ≡ mixed_print (length s) s → r ≡ ends_print s
  unfolding ends_print
  print-short h e = rw (lt-ltb (length s) 8 h) e

  pub print-long : {head r : ℕ} {a z : List ℕ} → 8 ≤ length s → a ≡ range_of s 0 8 → z ≡ range_of s (length s - 8) 8
      → head ≡ mixed_print (length s % 4294967296) a → r ≡ mixed_print head z → r ≡ ends_print s
  unfolding ends_print
  print-long h ea ez e q = rw (le-ltb (length s) 8 h, ← ea, ← ez, ← e) q

-- a table of one number a row
pub number_at : (g : ℕ → ℕ) (total n i : ℕ) {t : List ℕ} → t ≡ laid total (cells single (rows_of g n)) → i < n → get_or t i 0 ≡ g i
number_at g total n i {t} e h =
    let k : i ≡ i * 1 + 0 = omega arith in
    ap (λ (j : ℕ). get_or t j 0) k ∙ sym (cell-there t 1 i 0 (omega arith)) ∙ ap (λ (l : List ℕ). cell_of l 1 i 0) e
    ∙ cell-laid single 1 (λ x. refl) total (rows_of g n) i 0 0 (omega (arith, length-rows g n)) (omega arith)
    ∙ row_of g n i 0 h

pub all-printed : (first second keys : List ℕ) (total n : ℕ) {prints : List ℕ}
    → prints ≡ laid total (cells single (rows_of (print_at first second keys) n)) → Printed first second keys n prints
unfolding Printed print_at
all-printed first second keys total n {prints} e i j h k q =
    number_at (print_at first second keys) total n i e h
    ∙ (rw (same_names first second keys i j q, same-majors first second keys i j q, same-minors first second keys i j q))
    ∙ sym (number_at (print_at first second keys) total n j e k)

pub print-at-is : (first second keys : List ℕ) (i : ℕ) {p q r x y : ℕ} {s : List ℕ} → s ≡ name_in first second keys i → p ≡ ends_print s
    → x ≡ cell_of keys 6 i 3 → q ≡ and_number p x → y ≡ cell_of keys 6 i 4 → r ≡ and_number q y → r ≡ print_at first second keys i
unfolding print_at
print-at-is first second keys i e p x q y r = rw (← e, ← p, ← x, ← q, ← y) r
