-- docs/RULES.md, "Texts": the pieces of a policy's text: up to a byte and after it, without quotes, the lines. Assumes nothing.
use Rattle.std.specs.Prelude.{List, [], ◌∷◌, ℕ, zero, suc, ◌+◌, ◌-◌, eqb, take}
use Rattle.refusal.specs.Pick.{pick}
use Rattle.text.specs.Find.{index_of}
use Rattle.text.specs.Lines.{line_len, line_step}
use Rattle.text.specs.Piece.{Piece, first, beyond, shorn}

-- what stands before the first b, and what stands after it
abbrev pub until : ℕ → Piece → Piece
until b p = first (index_of b p.bytes) p

abbrev pub past_byte : ℕ → Piece → Piece
past_byte b p = beyond (index_of b p.bytes + 1) p

-- how many quotes stand at the front
unfoldable pub quotes : List ℕ → ℕ
quotes [] = zero
quotes (x ∷ s) = pick (eqb x 34) (suc (quotes s)) zero

-- without the quotes at its start, then without those at its end
abbrev pub unquoted_end : Piece → Piece
unquoted_end p = first (shorn 34 p.bytes) p

unfoldable pub bare : Piece → Piece
bare p = unquoted_end (beyond (quotes p.bytes) p)

-- the lines of a text that begins at `at`, each with its place; k bytes are left of a line under way.
-- Their bytes are `lines` of crate text: `lines-bytes` of proofs/Lines.antt
unfoldable pub lines_from : ℕ → ℕ → List ℕ → List Piece
lines_from at k [] = []
lines_from at zero (x ∷ s) =
    (record { at = at; bytes = take (line_len (x ∷ s)) (x ∷ s) }) ∷ lines_from (suc at) (line_step (x ∷ s) - 1) s
lines_from at (suc k) (x ∷ s) = lines_from (suc at) k s

unfoldable pub lines_of : List ℕ → List Piece
lines_of s = lines_from 0 0 s
