-- docs/RULES.md, "Differences": the name of a difference, its bytes and where they start: a block of memory and an offset in it.
-- Assumes nothing.
use Rattle.std.specs.Prelude.{Bool, List, [], ℕ, ◌+◌, ltb, length, take, drop}
use Rattle.refusal.specs.Pick.{pick, both}
use Rattle.table.specs.Table.{cell_of, capacity_of, inside}
use Rattle.table.specs.Shape.{width, limit}
use Rattle.differences.specs.declared.GivenModule.{GivenModule}
use Rattle.differences.specs.declared.Change.{Change}
use Rattle.differences.specs.declared.Change.TheVariants.{Removed, Added}

-- a table with w cells to a row and at most so many rows, of which n are stated; its first two cells are a range of the file
module _ (file : List ℕ) (w most : ℕ) (rows : List ℕ) (n i : ℕ) where
  -- the row is below both its count and its capacity, and its range lies in the file
  unfoldable pub there : Bool
  there = both (ltb i n) (both (ltb i (capacity_of (length rows) w most)) (inside file (cell_of rows w i 0) (cell_of rows w i 1)))

  unfoldable pub diff_bytes_at : List ℕ
  diff_bytes_at = pick there (take (cell_of rows w i 1) (drop (cell_of rows w i 0) file)) []

  -- in the file's own block, from its start on; or the baseline's
  unfoldable pub block_at : ℕ → ℕ → ℕ
  block_at own baseline = pick there own baseline

  unfoldable pub offset_at : ℕ → ℕ → ℕ
  offset_at own baseline = pick there (own + cell_of rows w i 0) baseline

-- Removed: a row of the baseline; added: a row of the candidate
module _ (b bt : List ℕ) (nb : ℕ) (c ct : List ℕ) (nc w most : ℕ) where
  abbrev pub changed_bytes : Change → ℕ → List ℕ
  changed_bytes Removed i = diff_bytes_at b w most bt nb i
  changed_bytes Added i = diff_bytes_at c w most ct nc i

  abbrev pub changed_block : Change → ℕ → ℕ → ℕ → ℕ
  changed_block Removed i baseline candidate = block_at b w most bt nb i baseline baseline
  changed_block Added i baseline candidate = block_at c w most ct nc i candidate baseline

  abbrev pub changed_offset : Change → ℕ → ℕ → ℕ → ℕ
  changed_offset Removed i baseline candidate = offset_at b w most bt nb i baseline baseline
  changed_offset Added i baseline candidate = offset_at c w most ct nc i candidate baseline

-- of table t
module _ (b bt : List ℕ) (nb : ℕ) (c ct : List ℕ) (nc t : ℕ) where
  abbrev pub diff_bytes : Change → ℕ → List ℕ
  diff_bytes = changed_bytes b bt nb c ct nc (width t) (limit t)

  abbrev pub diff_block : Change → ℕ → ℕ → ℕ → ℕ
  diff_block = changed_block b bt nb c ct nc (width t) (limit t)

  abbrev pub diff_offset : Change → ℕ → ℕ → ℕ → ℕ
  diff_offset = changed_offset b bt nb c ct nc (width t) (limit t)

-- the module whose rows a change names
abbrev pub module_of : GivenModule → GivenModule → Change → GivenModule
module_of b c Removed = b
module_of b c Added = c
