-- Two lists of keys as rows of one table, and the rows of each whose key the other lacks. Assumes nothing.
use Rattle.std.specs.Prelude.{◌≡◌, Bool, false, not, List, [], ◌∷◌, ℕ, ◌+◌, ◌-◌, eqb, leb, ltb, length, get_or, set, Option, Some, None}
use Rattle.refusal.specs.Pick.{pick, both}
use Rattle.std.specs.declared.cmp.Ordering.{Ordering}
use Rattle.table.specs.Table.{laid}
use Rattle.sorting.specs.Sort.{sort, selected, up_from}
use Rattle.sorting.specs.Keys.{name_of, row_order, row_marked}
use Rattle.sorting.specs.declared.Keys.{Keys}
use Rattle.differences.specs.Differences.{ties}
use Rattle.differences.specs.Numbers.{some_from}
use Rattle.std.specs.declared.ops.Range.{Range}

-- the cells of a row
abbrev pub key_width : ℕ
key_width = 6

-- a row's cells: the list that it is of, 0 or 1; a range of that list's bytes; a number that counts before the name and one after it; 1
-- where the row is wanted
abbrev pub columns : Bool → Keys
columns every = record { width = 6; mark = 5; value = 1; major = 3; file = 0; from = 1; len = 2; minor = 4; every = every }

-- where the rows of the other list start, and where they end
unfoldable pub others_of : ℕ → ℕ → ℕ → Range ℕ
others_of nb n i = pick (ltb i nb) (record { start = nb; end = n }) (record { start = 0; end = nb })

-- one of the rows of the other list passes
unfoldable pub some_other : (ℕ → Bool) → ℕ → ℕ → ℕ → Bool
some_other p nb n i = let o = others_of nb n i in some_from p o.start (o.end - o.start)

module _ (first second keys : List ℕ) where
  -- the name of row i
  unfoldable pub name_in : ℕ → List ℕ
  name_in i = name_of first second keys (columns false) i

  -- by the number before the name, the name, the number after it
  unfoldable pub key_order : ℕ → ℕ → Ordering
  key_order i j = row_order first second keys (columns false) i j

  -- rows i and j have one key
  unfoldable pub same_key : ℕ → ℕ → Bool
  same_key i j = ties (key_order i j)

  -- the cell says so
  unfoldable pub wanted : ℕ → Bool
  wanted i = row_marked first second keys (columns false) i

  -- row i is wanted, and no wanted row of the other list has its key
  unfoldable pub lost_key : ℕ → ℕ → ℕ → Bool
  lost_key nb n i = both (wanted i) (not (some_other (λ j. both (wanted j) (same_key i j)) nb n i))

  -- the rows that the other list lacks, in order; of one key every row, or else the lowest alone
  unfoldable pub missing : ℕ → ℕ → Bool → List ℕ
  missing nb n every = sort (row_order first second keys (columns every)) (selected (lost_key nb n) (up_from 0 n))

-- ---- a list in a table that is lent, where there is room to work
unfoldable pub holds_all : ℕ → ℕ → ℕ → ℕ → Bool
holds_all n a b c = both (leb n a) (both (leb n b) (leb n c))

-- all of the list, then zeros
pub record Whole (l before after : List ℕ) (r : Option ℕ) : Type 0 where
  pub answer-is : r ≡ Some (length l)
  pub table_is : after ≡ laid (length before) l

-- all of the list, then zeros; or no room, and zeros throughout
pub record Lacks (room : Bool) (l before after : List ℕ) (r : Option ℕ) : Type 0 where
  pub answer-is : r ≡ pick room (Some (length l)) None
  pub table_is : after ≡ laid (length before) (pick room l [])

-- ---- how the code goes: ranks
abbrev pub single : ℕ → List ℕ
single x = x ∷ []

-- a table of ranks, sorted by them
abbrev pub by_rank : Bool → Keys
by_rank every = record { width = 1; mark = 0; value = 0; major = 0; file = 1; from = 1; len = 1; minor = 1; every = every }

-- the same rank after a row of the same key, else one more
unfoldable pub rank_after : Bool → ℕ → ℕ
rank_after same r = pick same r (r + 1)

-- the rows l, which follow row p with rank r, ranked
unfoldable pub ranked_from : (ℕ → ℕ → Bool) → ℕ → ℕ → List ℕ → List ℕ → List ℕ
ranked_from same p r [] t = t
ranked_from same p r (i ∷ l) t =
    let s : ℕ = rank_after (same p i) r in
    ranked_from same i s l (set t i s)

-- from 1 on
unfoldable pub ranked : (ℕ → ℕ → Bool) → List ℕ → List ℕ → List ℕ
ranked same [] t = t
ranked same (i ∷ l) t = ranked_from same i 1 (i ∷ l) t

-- the rank of row i, or zero where a row of the other list has it
unfoldable pub lonely : List ℕ → ℕ → ℕ → ℕ → ℕ
lonely ranks nb n i = pick (some_other (λ j. eqb (get_or ranks i 0) (get_or ranks j 0)) nb n i) 0 (get_or ranks i 0)
