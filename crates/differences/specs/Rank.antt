-- docs/RULES.md, "Differences": the words of a change, and kinds by the order of their slugs. Assumes nothing.
use Rattle.std.specs.Prelude.{List, [], ◌∷◌, ℕ, eqb}
use Rattle.refusal.specs.Pick.{pick}
use Rattle.differences.specs.declared.Change.{Change}
use Rattle.differences.specs.declared.Change.TheVariants.{Removed, Added}

-- `removed`, `added`
abbrev pub change_word : Change → List ℕ
change_word Removed = 114 ∷ 101 ∷ 109 ∷ 111 ∷ 118 ∷ 101 ∷ 100 ∷ []
change_word Added = 97 ∷ 100 ∷ 100 ∷ 101 ∷ 100 ∷ []

-- func 0, global 1, memory 2, any other its byte, table 256
unfoldable pub rank_of : ℕ → ℕ
rank_of kind = pick (eqb kind 1) 256 (pick (eqb kind 3) 1 kind)
