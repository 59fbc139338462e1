-- docs/RULES.md, "The module" and "Texts": how long a file and a text may be, beyond which it is 14; and a range that lies in so many
-- bytes. Assumes nothing.
use Rattle.std.specs.Prelude.{Bool, ℕ, ◌+◌, leb}

-- bytes of a module's file
abbrev pub file_limit : ℕ
file_limit = 16777216

-- bytes of a policy's or a manifest's text
abbrev pub text_limit : ℕ
text_limit = 65536

-- a range lies in n bytes
abbrev pub fits_in : ℕ → ℕ → ℕ → Bool
fits_in n from len = leb (from + len) n
