-- A short line by value: its bytes, then zeros, at most 128; and a line with bytes added. Assumes nothing.
use Rattle.std.specs.Prelude.{List, [], ◌∷◌, ℕ, suc, min, ltb, length, set}
use Rattle.refusal.specs.Pick.{pick}
use Rattle.refusal.specs.Slug.{padded}
use Rattle.report.specs.declared.line.Line.{Line}

-- the line of a text; of one that is longer than 128 bytes, that of its first 128
unfoldable pub line_of : List ℕ → Line
line_of w = record { bytes = padded 128 w; len = min (length w) 128 }

-- ---- for the code
unfoldable pub empty : Line
empty = record { bytes = padded 128 []; len = 0 }

unfoldable pub add_byte : Line → ℕ → Line
add_byte l b = pick (ltb l.len 128) (record { bytes = set l.bytes l.len b; len = suc l.len }) l

unfoldable pub added : Line → List ℕ → Line
added l [] = l
added l (b ∷ w) = added (add_byte l b) w
