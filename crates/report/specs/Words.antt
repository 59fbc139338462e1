-- What the line of a refusal says. Assumes nothing.
use Rattle.std.specs.Prelude.{List, [], ◌∷◌, ℕ}

-- `refused `
abbrev pub refused_w : List ℕ
refused_w = 114 ∷ 101 ∷ 102 ∷ 117 ∷ 115 ∷ 101 ∷ 100 ∷ 32 ∷ []

-- ` at `
abbrev pub at_w : List ℕ
at_w = 32 ∷ 97 ∷ 116 ∷ 32 ∷ []
