-- docs/RULES.md, "Differences": the words in which it is said what a replacement keeps and what the two lists report. Assumes nothing.
use Rattle.std.specs.Prelude.{◌≡◌, ◌⊎◌, List, [], ◌∷◌, map, ◌≤◌, ◌<◌}
use Rattle.sorting.specs.Sort.{◌∈◌}
use Rattle.differences.specs.declared.Change.{Change}
use Rattle.differences.specs.declared.Change.TheVariants.{Removed, Added}
use Rattle.differences.specs.View.{Row}
use Rattle.differences.specs.Differences.{Entry}

-- what the rows hold, without their numbers
abbrev pub keys : {K : Type 0} → List (Row K) → List K
keys l = map (λ r. r.key) l

abbrev pub other : Change → Change
other Removed = Added
other Added = Removed

-- ---- what a list reports
module _ {K : Type 0} where
  -- the list reports this change of the key
  abbrev pub Reports : Change → K → List (Entry K) → Type 0
  Reports c k d = (e : Entry K) × (e ∈ d) × (e.change ≡ c) × (e.row.key ≡ k)

  -- a row of one module, whose key the other lacks
  abbrev pub Only : Row K → List (Row K) → List (Row K) → Type 0
  Only r b c = (r ∈ b) × (r.key ∈ keys c → ⊥)

  -- removed, of the baseline b; or added, of the candidate c
  abbrev pub IsChange : Entry K → List (Row K) → List (Row K) → Type 0
  IsChange e b c = ((e.change ≡ Removed) × Only e.row b c) ⊎ ((e.change ≡ Added) × Only e.row c b)

  -- no change of this key has a lower row
  abbrev pub IsLowest : Entry K → List (Row K) → List (Row K) → Type 0
  IsLowest e b c = (f : Entry K) → IsChange f b c → f.row.key ≡ e.row.key → e.row.at ≤ f.row.at

  -- each row has a lower number than all that follow it
  abbrev pub Rising : List (Row K) → Type 0
  Rising [] = Unit {0}
  Rising (r ∷ l) = ((s : Row K) → s ∈ l → r.at < s.at) × Rising l

  -- removed for added and added for removed, of one row
  abbrev pub reversed : Entry K → Entry K
  reversed e = record { change = other e.change; row = e.row }
