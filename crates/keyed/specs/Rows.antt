-- For the code: what is said of rows of keys, of the rows as the code has them. Assumes nothing.
use Rattle.std.specs.Prelude.{Bool, List, ℕ}
use Rattle.keyed.specs.Keying.{name_in, same_key}
use Rattle.keyed.specs.Quick.{print_at, Printed, meets_key, found_mark}
use Rattle.keyed.specs.declared.rows.KeyRows.{KeyRows}

-- the name of a row; two rows have one key; the print of a row
abbrev pub name_of : KeyRows → ℕ → List ℕ
name_of r = name_in r.first.now r.second.now r.keys.now

abbrev pub one_key : KeyRows → ℕ → ℕ → Bool
one_key r = same_key r.first.now r.second.now r.keys.now

abbrev pub print_of : KeyRows → ℕ → ℕ
print_of r = print_at r.first.now r.second.now r.keys.now

-- the first n rows have these prints
abbrev pub PrintedOf : KeyRows → ℕ → List ℕ → Type 0
PrintedOf r = Printed r.first.now r.second.now r.keys.now

-- row j is wanted and has the key of row i
abbrev pub meets : KeyRows → ℕ → ℕ → Bool
meets r = meets_key r.first.now r.second.now r.keys.now

-- 1 where the other list has the key of a row
abbrev pub mark_of : KeyRows → ℕ → ℕ → ℕ → ℕ
mark_of r = found_mark r.first.now r.second.now r.keys.now
