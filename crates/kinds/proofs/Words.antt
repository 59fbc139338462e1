-- Words of kinds and sections. Assumes nothing.
use Prim.Native.Nat.{ℕ, ◌<◌}
use native.Mathlib.Omega.{arith}
use mathlib.Core.Path.{◌≡◌}
use mathlib.Core.List.{[], ◌∷◌}
use Rattle.std.proofs.lemmas.List.{get_or_past}
use Rattle.kinds.specs.Kinds.{section_words, section_word}

-- an id above 13 has no word of its own
pub no_word : (id : ℕ) → 13 < id → section_word id ≡ 117 ∷ 110 ∷ 107 ∷ 110 ∷ 111 ∷ 119 ∷ 110 ∷ []
unfolding section_word section_words
no_word id h = get_or_past section_words id _ (omega arith)
