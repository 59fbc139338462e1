-- When a row's range is there, and what is handed back then. Assumes nothing.
use mathlib.Core.Path.{◌≡◌}
use mathlib.Core.Bool.{true, false}
use mathlib.Core.List.{List, []}
use Prim.Native.Nat.{ℕ, ◌+◌, ◌-◌, ◌≤◌, ◌<◌}
use native.Mathlib.Nat.{add-sub_cancel_left}
use native.Mathlib.Omega.{arith}
use borrow.Author.Tests.{lt-ltb, le-ltb, le-leb, lt-leb}
use lib.Dec.{ltb}
use lib.ListN.{length, take, drop}
use Rattle.table.specs.Table.{cell_of, capacity_of}
use Rattle.table.specs.declared.given.GivenTable.{GivenTable}
use Rattle.differences.specs.declared.GivenModule.{GivenModule}
use Rattle.differences.specs.declared.Change.{Change}
use Rattle.differences.specs.declared.Change.TheVariants.{Removed, Added}
use Rattle.differences.specs.Part.{there, diff_bytes_at, block_at, offset_at, changed_bytes, changed_block, changed_offset, module_of}

module _ (file : List ℕ) (w most : ℕ) (rows : List ℕ) (n i : ℕ) where
  pub past-count : n ≤ i → there file w most rows n i ≡ false
  unfolding there
  past-count h = rw (le-ltb i n h)

  module _ (h : i < n) {room : ℕ} (e : room ≡ capacity_of (length rows) w most) where
    pub past_room : room ≤ i → there file w most rows n i ≡ false
    unfolding there
    past_room k = rw (lt-ltb i n h, le-ltb i (capacity_of (length rows) w most) (omega (arith, e)))

    module _ (k : i < room) {from len : ℕ} (f : from ≡ cell_of rows w i 0) (l : len ≡ cell_of rows w i 1) where
      below : ltb i (capacity_of (length rows) w most) ≡ true
      below = lt-ltb i (capacity_of (length rows) w most) (omega (arith, e))

      pub outside : length file < from + len → there file w most rows n i ≡ false
      unfolding there
      outside o =
          rw (lt-ltb i n h, below, lt-leb (cell_of rows w i 0 + cell_of rows w i 1) (length file) (omega (arith, f, l)))

      within : from + len ≤ length file → there file w most rows n i ≡ true
      unfolding there
      within o =
          rw (lt-ltb i n h, below, le-leb (cell_of rows w i 0 + cell_of rows w i 1) (length file) (omega (arith, f, l)))

      module _ (o : from + len ≤ length file) where
        -- the part of the file
        pub part_bytes : take (from + len - from) (drop from file) ≡ diff_bytes_at file w most rows n i
        unfolding diff_bytes_at
        part_bytes = rw (within o, add-sub_cancel_left from len, ← f, ← l)

        pub part-block : (own base : ℕ) → own ≡ block_at file w most rows n i own base
        unfolding block_at
        part-block own base = rw (within o)

        pub part-offset : (own base : ℕ) → own + from ≡ offset_at file w most rows n i own base
        unfolding offset_at
        part-offset own base = rw (within o, ← f)

  -- the empty part at the baseline's start
  module _ (e : there file w most rows n i ≡ false) where
    pub gone-bytes : [] ≡ diff_bytes_at file w most rows n i
    unfolding diff_bytes_at
    gone-bytes = rw e

    pub gone-block : (own base : ℕ) → base ≡ block_at file w most rows n i own base
    unfolding block_at
    gone-block own base = rw e

    pub gone-offset : (own base : ℕ) → base ≡ offset_at file w most rows n i own base
    unfolding offset_at
    gone-offset own base = rw e

-- by the change: the rows are those of either table
module _ (rows : GivenModule → GivenTable) (w most : ℕ) (b c : GivenModule) (r : List ℕ) (p q : ℕ) where
  abbrev Part : GivenModule → ℕ → Type 0
  Part m i =
      (r ≡ diff_bytes_at m.file.now w most (rows m).cells.now (rows m).count i)
      × (p ≡ block_at m.file.now w most (rows m).cells.now (rows m).count i m.file.ref_ptr.0 b.file.ref_ptr.0)
      × (q ≡ offset_at m.file.now w most (rows m).cells.now (rows m).count i m.file.ref_ptr.1 b.file.ref_ptr.1)

  abbrev Changed : Change → ℕ → Type 0
  Changed h i =
      (r ≡ changed_bytes b.file.now (rows b).cells.now (rows b).count c.file.now (rows c).cells.now (rows c).count w most h i)
      × (p ≡ changed_block b.file.now (rows b).cells.now (rows b).count c.file.now (rows c).cells.now (rows c).count w most h i
      b.file.ref_ptr.0 c.file.ref_ptr.0)
      × (q ≡ changed_offset b.file.now (rows b).cells.now (rows b).count c.file.now (rows c).cells.now (rows c).count w most h i
      b.file.ref_ptr.1 c.file.ref_ptr.1)

  pub changed-part : {m : GivenModule} (h : Change) (i : ℕ) → m ≡ module_of b c h → Part m i → Changed h i
  changed-part Removed i e x = rw e at x
  changed-part Added i e x = rw e at x
