-- UTF-8: Table 3-7 of the Unicode Standard, "Well-Formed UTF-8 Byte Sequences", and what it says of a text. Assumes nothing.
use Rattle.std.specs.Prelude.{Bool, true, false, List, [], ◌∷◌, ℕ, zero, suc, length}
use Rattle.refusal.specs.Pick.{pick, both}
use Rattle.text.specs.Scan.{scan}
use Rattle.text.specs.Ranges.{Range, ◌to◌, in_range}

-- a row of the table: the range of the first byte, and those of the bytes after it
pub data Utf8Row : Type 0 where
  row : Range → List Range → Utf8Row

abbrev pub tail : Range
tail = 0x80 to 0xBF

unfoldable pub utf8_table : List Utf8Row
utf8_table =
    row (0x00 to 0x7F) []
    ∷ row (0xC2 to 0xDF) (tail ∷ [])
    ∷ row (0xE0 to 0xE0) (0xA0 to 0xBF ∷ tail ∷ [])
    ∷ row (0xE1 to 0xEC) (tail ∷ tail ∷ [])
    ∷ row (0xED to 0xED) (0x80 to 0x9F ∷ tail ∷ [])
    ∷ row (0xEE to 0xEF) (tail ∷ tail ∷ [])
    ∷ row (0xF0 to 0xF0) (0x90 to 0xBF ∷ tail ∷ tail ∷ [])
    ∷ row (0xF1 to 0xF3) (tail ∷ tail ∷ tail ∷ [])
    ∷ row (0xF4 to 0xF4) (0x80 to 0x8F ∷ tail ∷ tail ∷ [])
    ∷ []

-- what the first byte asks of those after it: nothing can make it well formed, or these ranges
pub data Follow : Type 0 where
  none : Follow
  these : List Range → Follow

unfoldable pub follow_in : List Utf8Row → ℕ → Follow
follow_in [] a = none
follow_in (row r rs ∷ rows) a = pick (in_range r a) (these rs) (follow_in rows a)

unfoldable pub followers : ℕ → Follow
unfolding utf8_table
followers a = follow_in utf8_table a

-- the bytes at the front of s lie in the ranges, one after the other
unfoldable pub covers : List Range → List ℕ → Bool
covers [] s = true
covers (r ∷ rs) [] = false
covers (r ∷ rs) (x ∷ s) = both (in_range r x) (covers rs s)

unfoldable pub after : Follow → List ℕ → ℕ
after none s = zero
after (these rs) s = pick (covers rs s) (suc (length rs)) zero

-- the length of the well-formed sequence at the front of s, 0 where there is none
unfoldable pub seq_len : List ℕ → ℕ
seq_len [] = zero
seq_len (a ∷ s) = after (followers a) s

-- the number of bytes before the first ill-formed sequence: all of them where s is well formed
unfoldable pub up_to : List ℕ → ℕ
up_to s = scan seq_len zero s
