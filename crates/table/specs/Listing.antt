-- docs/RULES.md, "Tables": the promise of a call that answers with a list of row numbers in a lent table: its length, and every cell.
-- Assumes nothing.
use Rattle.std.specs.Prelude.{◌≡◌, List, [], ℕ, leb, length}
use Rattle.refusal.specs.Pick.{pick}
use Rattle.refusal.specs.Said.{Said, accepted, refused, follow, spot}
use Rattle.table.specs.Table.{laid}

-- a finished list in a table with the number tn and so much room; 13, at the table's number, where it has more rows
unfoldable pub fitted : ℕ → ℕ → List ℕ → Said (List ℕ)
fitted tn room l = pick (leb (length l) room) (accepted l) (refused 13 (spot tn))

-- after a refusal the table is zero throughout
abbrev pub rows_in : Said (List ℕ) → List ℕ
rows_in (accepted l) = l
rows_in (refused n p) = []

pub record ListsRows (x : Said (List ℕ)) (before after : List ℕ) (a : Said ℕ) : Type 0 where
  pub answer-is : a ≡ follow x (λ l. accepted (length l))
  pub table_is : after ≡ laid (length before) (rows_in x)
