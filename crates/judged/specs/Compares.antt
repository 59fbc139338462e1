-- compat.rs with lent tables: the answer in a struct of numbers, all zero but number and place on a refusal. Assumes nothing.
use Rattle.std.specs.Prelude.{ℕ, zero, suc, false, ◌≡◌, List, ltb, length, get_or}
use Rattle.std.specs.Borrow.{Bor}
use Rattle.refusal.specs.Pick.{pick}
use Rattle.refusal.specs.Said.{Said, accepted, refused, number_at, follow}
use Rattle.table.specs.Table.{laid, cells, range_of}
use Rattle.refusal.specs.declared.Slug.{Slug}
use Rattle.differences.specs.declared.GivenModule.{GivenModule}
use Rattle.differences.specs.declared.Change.{Change}
use Rattle.differences.specs.declared.Change.TheVariants.{Removed, Added}
use Rattle.differences.specs.Compared.{Lists, Verdict, verdict_on, export_diff_cells, need_diff_cells, listed}
use Rattle.reasons.specs.declared.GivenDiffs.{GivenDiffs}
use Rattle.judged.specs.declared.compares.CompareTold.{CompareTold}
use Rattle.judged.specs.declared.compares.NameTold.{NameTold}

abbrev pub compare_told : Said Verdict → CompareTold
compare_told (accepted v) =
    record { number = 0; place = 0; exports = v.exports; capabilities = v.capabilities; compatible = v.compatible }
compare_told (refused n p) = record { number = n; place = number_at p; exports = 0; capabilities = 0; compatible = false }

-- the answer, and what tables 8 and 9 hold at the end
pub record CompareTells (x : Said Lists) (before8 after8 before9 after9 : List ℕ) (r : CompareTold) : Type 0 where
  pub answer-is : r ≡ compare_told (follow x (λ l. accepted (verdict_on l)))
  pub table8-is : after8 ≡ laid (length before8) (cells export_diff_cells (listed x).exports)
  pub table9-is : after9 ≡ laid (length before9) (cells need_diff_cells (listed x).needs)

-- a change that is handed in as a number
abbrev pub change_at : ℕ → Change
change_at zero = Removed
change_at (suc n) = Added

-- of a name its length and byte k, 0 where it has none
unfoldable pub name_told : List ℕ → ℕ → NameTold
name_told l k = record { len = length l; byte = pick (ltb k (length l)) (get_or l k 0) 0 }

-- of a word, the same
abbrev pub word_told : Slug → ℕ → NameTold
word_told w k = name_told (range_of w.bytes 0 w.len) k

-- the structs of what is handed in of a module, and of two lists of differences
abbrev pub given_as : Bor (List ℕ) → Bor (List ℕ) → ℕ → Bor (List ℕ) → ℕ → GivenModule
given_as file imports m exports n =
    record { file = file; imports = record { cells = imports; count = m }; exports = record { cells = exports; count = n } }

abbrev pub diffs_as : Bor (List ℕ) → ℕ → Bor (List ℕ) → ℕ → GivenDiffs
diffs_as xd n cd m = record { exports = record { cells = xd; count = n }; needs = record { cells = cd; count = m } }
