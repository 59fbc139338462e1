-- docs/RULES.md, "Tables": the cells of a table as bytes, eight to a cell, the lowest first. Assumes nothing.
use Rattle.std.specs.Prelude.{ℕ, zero, suc, ◌+◌, ◌*◌, ◌/◌, ◌%◌, Bool, ◌≡◌, List, [], ◌∷◌, leb, length}
use Rattle.refusal.specs.Pick.{pick}
use Rattle.table.specs.Table.{cells, put}

-- the k low bytes of a number
unfoldable pub low_bytes : ℕ → ℕ → List ℕ
low_bytes zero n = []
low_bytes (suc k) n = n % 256 ∷ low_bytes k (n / 256)

-- the bytes of cells, one cell after another
abbrev pub cell_bytes : List ℕ → List ℕ
cell_bytes l = cells (low_bytes 8) l

-- the bytes of the cells l have room in the buffer d from `at` on
abbrev pub room_at : List ℕ → ℕ → List ℕ → Bool
room_at l at d = leb (at + length l * 8) (length d)

-- the buffer d is x after the cells were to be put at `at`, and r is the place after them: all of them, or none
pub record Puts (l : List ℕ) (at : ℕ) (d : List ℕ) (r : ℕ) (x : List ℕ) : Type 0 where
  pub next : r ≡ pick (room_at l at d) (at + length l * 8) at
  pub output : x ≡ pick (room_at l at d) (put d at (cell_bytes l)) d
