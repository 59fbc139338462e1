-- For the code of rule 6: the print of a name, and the places where a print is marked. The rules are not written in it. Assumes nothing.
use Rattle.std.specs.Prelude.{ℕ, ◌+◌, ◌-◌, ◌*◌, ◌/◌, ◌%◌, ◌≡◌, List, [], ◌∷◌, length, get_or, ltb}
use Rattle.std.specs.Int.Bits.{bit_and, bit_xor}
use Rattle.refusal.specs.Pick.{pick}
use Rattle.refusal.specs.Said.{Said, accepted, refused, Got, got}
use Rattle.leb.specs.Reads.{fixed_at}

-- a print, and one byte after another
unfoldable pub mixed : ℕ → List ℕ → ℕ
mixed print [] = print
mixed print (b ∷ l) = mixed ((print * 2654435761 + b) % 4294967296) l

-- two halves in one word
unfoldable pub stirred : ℕ → ℕ → ℕ
stirred low high = bit_xor (low % 4294967296 * 2654435761) (high % 4294967296 * 2246822519)

-- four bytes as a number; 0 where there are fewer
unfoldable pub four_found : Said (Got ℕ) → ℕ
four_found (accepted (got v next)) = v
four_found (refused n p) = 0

unfoldable pub half_at : List ℕ → ℕ → ℕ
half_at s at = four_found (fixed_at s at)

unfoldable pub word_at : List ℕ → ℕ → ℕ
word_at s at = stirred (half_at s at) (half_at s (at + 4))

unfoldable pub together : ℕ → ℕ
together all = stirred all (all / 4294967296)

-- of fewer than eight bytes each; else the length, the first eight, eight from the spot on and the last eight
unfoldable pub name_print : ℕ → List ℕ → ℕ
name_print spot s =
    pick (ltb (length s) 8) (stirred (mixed (length s) s) (bit_xor (mixed (length s) s) (mixed (length s) s / 32768)))
    (together (bit_xor (bit_xor (bit_xor (word_at s 0) (word_at s (pick (ltb spot (length s - 8)) spot (length s - 8)) / 8))
    (word_at s (length s - 8) / 64)) (length s)))

-- where the three places of a print stand in it
abbrev pub first_part : ℕ
first_part = 256

abbrev pub second_part : ℕ
second_part = 16777216

abbrev pub third_part : ℕ
third_part = 1099511627776

-- the three places of a print are marked; `last` is the last place, one less than a power of two
abbrev pub Marked : List ℕ → ℕ → ℕ → Type 0
Marked marks last print =
    (get_or marks (bit_and (print / first_part) last) 0 ≡ 1)
    × (get_or marks (bit_and (print / second_part) last) 0 ≡ 1)
    × (get_or marks (bit_and (print / third_part) last) 0 ≡ 1)

-- a print was marked, and what was marked before is
pub record Noted (before after : List ℕ) (last print : ℕ) : Type 0 where
  pub as_long : length after ≡ length before
  pub told : Marked after last print
  pub kept : (p : ℕ) → Marked before last p → Marked after last p
