-- The characters of a text: the code points that the Unicode Standard's Table 3-6 reads from the sequences of Table 3-7.
-- A byte that begins no well-formed sequence is a character alone, with no code point, so that every text has characters. Assumes nothing.
use Rattle.std.specs.Prelude.{List, [], ◌∷◌, ℕ, zero, suc, ◌+◌, ◌*◌, ◌%◌, get_or}
use Rattle.text.specs.Utf8.{seq_len}

-- the code point of the sequence of k bytes at the front (Table 3-6: the low bits of each byte). With no sequence there: no code point
unfoldable pub code_by : ℕ → List ℕ → ℕ
code_by zero s = 0x110000
code_by (suc zero) s = get_or s 0 0 % 128
code_by (suc (suc zero)) s = get_or s 0 0 % 32 * 64 + get_or s 1 0 % 64
code_by (suc (suc (suc zero))) s = (get_or s 0 0 % 16 * 64 + get_or s 1 0 % 64) * 64 + get_or s 2 0 % 64
code_by (suc (suc (suc (suc k)))) s = ((get_or s 0 0 % 8 * 64 + get_or s 1 0 % 64) * 64 + get_or s 2 0 % 64) * 64 + get_or s 3 0 % 64

-- the code point at the front of s
unfoldable pub code_of : List ℕ → ℕ
code_of s = code_by (seq_len s) s

-- the character at the front: its code point, and its bytes after the first. A byte that begins no sequence is a character alone
pub data Char : Type 0 where
  char : ℕ → ℕ → Char

unfoldable pub more_by : ℕ → ℕ
more_by zero = zero
more_by (suc k) = k

unfoldable pub more : List ℕ → ℕ
more s = more_by (seq_len s)

-- the characters of s, after k bytes of one under way
unfoldable pub chars_from : ℕ → List ℕ → List Char
chars_from k [] = []
chars_from zero (x ∷ s) = char (code_of (x ∷ s)) (more (x ∷ s)) ∷ chars_from (more (x ∷ s)) s
chars_from (suc k) (x ∷ s) = chars_from k s

unfoldable pub chars : List ℕ → List Char
chars s = chars_from zero s
