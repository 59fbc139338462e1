-- Policies by what they allow, and seven files that tell domains apart. Assumes nothing.
use Rattle.std.specs.Prelude.{◌≡◌, true, List, [], ◌∷◌, ◌++◌, ℕ, ◌+◌, ◌<◌, length, get_or}
use Rattle.policy.specs.declared.Policy.{Policy}
use Rattle.domains.specs.Classify.{Clue, entry, front, exact, heads, wasi}
use Rattle.verdicts.specs.Evaluate.{effective_of}
use Rattle.standin.specs.Examples.{module_header}

-- q is no stricter than p: it allows every domain that p allows
abbrev pub NoStricter : Policy → Policy → Type 0
NoStricter p q = (d : ℕ) → d < 7 → (effective_of p d).allow ≡ true → (effective_of q d).allow ≡ true

-- `wasi:` and the word by which a path is classed as domain d; for unknown, which has no word, `wasi:` alone
abbrev pub clue_word : Clue → List ℕ
clue_word (entry (front w) d) = w
clue_word (entry (exact w) d) = w

abbrev pub sole_source : ℕ → List ℕ
sole_source d = wasi ++ clue_word (get_or heads d (entry (exact []) 6))

-- a module's file with one section: the function `f` is imported from that source
unfoldable pub sole : ℕ → List ℕ
sole d =
    module_header
    ++ 0x02 ∷ (6 + length (sole_source d)) ∷ 0x01 ∷ length (sole_source d) ∷ sole_source d
    ++ 0x01 ∷ 0x66 ∷ 0x00 ∷ 0x00 ∷ []
