-- docs/RULES.md, "Programs": a name from outside, shown so that it cannot forge a line nor end its quotes. Assumes nothing.
use Rattle.std.specs.Prelude.{Bool, not, List, [], ◌∷◌, ◌++◌, ℕ, ◌/◌, ◌%◌, eqb}
use Rattle.refusal.specs.Pick.{pick, both, within}
use Rattle.kinds.specs.Kinds.{hex_of}

-- printable ASCII, but the quote and the backslash
unfoldable pub shown_plain : ℕ → Bool
shown_plain b = both (within 32 126 b) (both (not (eqb b 34)) (not (eqb b 92)))

-- a byte: as it is, or `\x` and two digits of base sixteen
unfoldable pub shown : ℕ → List ℕ
shown b = pick (shown_plain b) (b ∷ []) (92 ∷ 120 ∷ hex_of (b / 16) ∷ hex_of (b % 16) ∷ [])

unfoldable pub escaped : List ℕ → List ℕ
escaped [] = []
escaped (b ∷ s) = shown b ++ escaped s

-- in quotes
unfoldable pub quoted : List ℕ → List ℕ
quoted name = (34 ∷ []) ++ (escaped name ++ (34 ∷ []))
