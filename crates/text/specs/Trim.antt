-- docs/RULES.md, "Texts": trimming removes Unicode's White_Space at both ends, the front first. Assumes nothing.
use Rattle.std.specs.Prelude.{List, [], ◌∷◌, ℕ, zero, suc, ◌+◌, eqb, take, drop}
use Rattle.refusal.specs.Pick.{pick, both}
use Rattle.refusal.specs.declared.Part.{Part}
use Rattle.text.specs.White.{is_white}
use Rattle.text.specs.Chars.{Char, char, chars}

-- the bytes of the White_Space characters at the front
unfoldable pub start_len : List Char → ℕ
start_len [] = zero
start_len (char c m ∷ cs) = pick (is_white c) (suc m + start_len cs) zero

-- the bytes that stay when the White_Space characters at the end are removed
unfoldable pub end_len : List Char → ℕ
end_len [] = zero
end_len (char c m ∷ cs) = pick (both (is_white c) (eqb (end_len cs) zero)) zero (suc m + end_len cs)

-- how many bytes the White_Space at the front of s takes
unfoldable pub trim_start : List ℕ → ℕ
trim_start s = start_len (chars s)

-- how many bytes of s stay when the White_Space at its end is removed
unfoldable pub trim_end : List ℕ → ℕ
trim_end s = end_len (chars s)

-- s without the White_Space at its front, and at its end
abbrev pub started : List ℕ → List ℕ
started s = drop (trim_start s) s

abbrev pub ended : List ℕ → List ℕ
ended s = take (trim_end s) s

-- s trimmed
unfoldable pub trim_of : List ℕ → List ℕ
trim_of s = ended (started s)

-- where it stands in s
unfoldable pub trimmed : List ℕ → Part
trimmed s = record { from = trim_start s; len = trim_end (started s) }
