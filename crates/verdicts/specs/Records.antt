-- docs/RULES.md, "Domains and verdicts": the domain numbers of requirement records. Assumes nothing.
use Rattle.std.specs.Prelude.{List, map, ℕ}
use Rattle.verdicts.specs.declared.records.Requirement.{Requirement}

-- one after another
abbrev pub numbers : List Requirement → List ℕ
numbers rs = map (λ (r : Requirement). r.domain) rs
