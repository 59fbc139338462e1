-- docs/RULES.md, "The whole check": what is answered of a module's file and a policy's text. Assumes nothing.
use Rattle.std.specs.Prelude.{List, map, ℕ, ltb, length}
use Rattle.refusal.specs.Pick.{pick}
use Rattle.refusal.specs.Sizes.{file_limit}
use Rattle.refusal.specs.Said.{Said, refused, follow, spot}
use Rattle.table.specs.Table.{laid, cells}
use Rattle.table.specs.Shape.{limit}
use Rattle.wasm.specs.Rows.{import_cells}
use Rattle.wasm.specs.Module.{Sizes, module_at}
use Rattle.conform.specs.Sound.{limits}
use Rattle.policy.specs.declared.Policy.{Policy}
use Rattle.text.specs.Whole.{whole_text}
use Rattle.policy.specs.Reader.{read_policy}
use Rattle.verdicts.specs.Evaluate.{Outcome, evaluated}
use Rattle.requirements.specs.Requirements.{row_domain, module_rows}

-- the domains that the rows ask for, in columns at the limit, evaluated
unfoldable pub weighed : List ℕ → List ℕ → ℕ → Policy → Said Outcome
weighed file imports n p =
    follow (module_rows file imports n (limit 7))
    (λ rows. evaluated (laid (limit 7) (map (row_domain file imports) rows)) (length rows) p)

unfoldable pub held_to : List ℕ → List ℕ → ℕ → List ℕ → Said Outcome
held_to file imports n text = follow (read_policy text) (λ p. weighed file imports n p)

-- the file, read with tables of some sizes, and the rows of table 2, held to the text
unfoldable pub read_then : Sizes → List ℕ → List ℕ → Said Outcome
read_then z file text =
    follow (module_at file z) (λ m. held_to file (cells import_cells m.tables.imports) (length m.tables.imports) text)

-- for the code: tables of so many cells
abbrev pub sized : ℕ → ℕ → ℕ → ℕ → Sizes
sized s i e n = record { sections = s; imports = i; exports = e; names = n }

-- 14 of either, then 4 of the text; the module's refusals, with tables at the limits; the policy's; then the verdicts
unfoldable pub checked_of : List ℕ → List ℕ → Said Outcome
checked_of file text =
    pick (ltb file_limit (length file)) (refused 14 (spot 0)) (follow (whole_text text) (λ u. read_then limits file text))
