-- What the quick path says. Assumes nothing.
use Rattle.std.specs.Prelude.{◌≡◌, Bool, true, false, List, [], ◌∷◌, ℕ, ◌+◌, ◌-◌, ◌*◌, ◌%◌, ◌≤◌, ◌<◌, eqb, ltb, length, get_or}
use Rattle.std.specs.Prelude.{Option, Some, None}
use Rattle.table.specs.Table.{cell_of, range_of}
use Rattle.refusal.specs.Pick.{pick, both}
use Rattle.sorting.specs.Keys.{sorted_rows}
use Rattle.keyed.specs.Keying.{columns, name_in, wanted, same_key, some_other, missing}
use Rattle.keyed.specs.declared.quick.Sought.{Sought}

-- a print, and one byte after another
unfoldable pub mixed_print : ℕ → List ℕ → ℕ
mixed_print print [] = print
mixed_print print (b ∷ l) = mixed_print ((print * 2654435761 + b) % 4294967296) l

-- a print, and a number
unfoldable pub and_number : ℕ → ℕ → ℕ
and_number print number = (print * 2654435761 + number % 4294967296) % 4294967296

-- what tells most names apart: the length, the first eight bytes and the last eight; of fewer than eight each
unfoldable pub ends_print : List ℕ → ℕ
ends_print s =
    pick (ltb (length s) 8) (mixed_print (length s) s)
    (mixed_print (mixed_print (length s % 4294967296) (range_of s 0 8)) (range_of s (length s - 8) 8))

module _ (first second keys : List ℕ) where
  -- row j is wanted, and its key is that of row i
  unfoldable pub meets_key : ℕ → ℕ → Bool
  meets_key i j = both (wanted first second keys j) (same_key first second keys i j)

  -- the print of row i: of its name and its two numbers
  unfoldable pub print_at : ℕ → ℕ
  print_at i = and_number (and_number (ends_print (name_in first second keys i)) (cell_of keys 6 i 3)) (cell_of keys 6 i 4)

  -- of the first n rows those of one key have one print
  unfoldable pub Printed : ℕ → List ℕ → Type 0
  Printed n prints = (i j : ℕ) → i < n → j < n → same_key first second keys i j ≡ true → get_or prints i 0 ≡ get_or prints j 0

  -- 1 where the other list has the key of row i
  unfoldable pub found_mark : ℕ → ℕ → ℕ → ℕ
  found_mark nb n i = pick (some_other (meets_key i) nb n i) 1 0

-- rows `from` to before `to` have other prints
abbrev pub Unlike : List ℕ → ℕ → ℕ → ℕ → Type 0
Unlike prints print from to = (j : ℕ) → from ≤ j → j < to → get_or prints j 0 ≡ print → ⊥

-- the table of keys with no mark in the first n rows that are found
pub record Unmarked (keys found : List ℕ) (n : ℕ) (after : List ℕ) : Type 0 where
  pub long : length after ≡ length keys
  pub others : (i j : ℕ) → j < 5 → cell_of after 6 i j ≡ cell_of keys 6 i j
  pub marks : (i : ℕ) → cell_of after 6 i 5 ≡ pick (both (ltb i n) (eqb (get_or found i 0) 1)) 0 (cell_of keys 6 i 5)

-- a search that ended says what it found
abbrev pub Seeks : Bool → Option Sought → Type 0
Seeks t (Some s) = s.met ≡ t
Seeks t None = Unit {0}

-- the rows that selected their marks, sorted, are the missing ones
pub record Tried (first second keys : List ℕ) (nb n : ℕ) (after : List ℕ) (r : Bool) : Type 0 where
  pub done : r ≡ true → (every : Bool) → sorted_rows first second after (columns every) n ≡ missing first second keys nb n every
  pub kept : r ≡ false → after ≡ keys
