-- docs/RULES.md, "Differences": what the comparison of two modules answers, and what tables 8 and 9 then hold. Assumes nothing.
use Rattle.std.specs.Prelude.{◌≡◌, Bool, ◌&&◌, List, [], ◌∷◌, ℕ, leb, ltb, length}
use Rattle.refusal.specs.Pick.{pick, both}
use Rattle.refusal.specs.Sizes.{file_limit, fits_in}
use Rattle.refusal.specs.Said.{Said, accepted, refused, follow, spot}
use Rattle.table.specs.Table.{laid, cells}
use Rattle.table.specs.Shape.{capacity_in, cell_in}
use Rattle.table.specs.Testing.{bad, tested}
use Rattle.table.specs.Entries.{finished}
use Rattle.import_rows.specs.Queries.{imports_tested}
use Rattle.differences.specs.declared.GivenModule.{GivenModule}
use Rattle.differences.specs.declared.Change.{Change}
use Rattle.differences.specs.declared.Change.TheVariants.{Removed, Added}
use Rattle.differences.specs.View.{ExportKey, Need, View, view_of}
use Rattle.differences.specs.Differences.{Entry, export_diff, need_diff, has_no}

-- the name of row i of table 3 lies in a file of n bytes, and its kind is a byte
unfoldable pub export_fits : ℕ → List ℕ → ℕ → Bool
export_fits n exports i = both (fits_in n (cell_in 3 exports i 0) (cell_in 3 exports i 1)) (leb (cell_in 3 exports i 2) 255)

unfoldable pub exports_tested : ℕ → List ℕ → ℕ → Said (Unit {0})
exports_tested n exports rows = tested (capacity_in 3 (length exports)) rows (bad (export_fits n exports))

-- what is handed in of a module: its file, table 2 and a count, table 3 and a count
pub record Given : Type 0 where
  pub file : List ℕ
  pub imports : List ℕ
  pub import_count : ℕ
  pub exports : List ℕ
  pub export_count : ℕ

abbrev pub given : List ℕ → List ℕ → ℕ → List ℕ → ℕ → Given
given file imports m exports n =
    record { file = file; imports = imports; import_count = m; exports = exports; export_count = n }

-- of the struct that the code hands in
abbrev pub given_of : GivenModule → Given
given_of g = given g.file.now g.imports.cells.now g.imports.count g.exports.cells.now g.exports.count

abbrev pub viewed : Given → View
viewed g = view_of g.file g.imports g.import_count g.exports g.export_count

-- 15 for table 2, then for table 3
unfoldable pub tables_tested : Given → Said (Unit {0})
tables_tested g =
    follow (imports_tested (length g.file) g.imports g.import_count)
    (λ u. exports_tested (length g.file) g.exports g.export_count)

-- 14, of either file; 15, the baseline's tables and then the candidate's
unfoldable pub both_tested : Given → Given → Said (Unit {0})
both_tested b c =
    pick (ltb file_limit (length b.file)) (refused 14 (spot 0))
    (pick (ltb file_limit (length c.file)) (refused 14 (spot 0))
    (follow (tables_tested b) (λ u. tables_tested c)))

-- tables that passed
pub record Good (g : Given) : Type 0 where
  pub imports-good : imports_tested (length g.file) g.imports g.import_count ≡ accepted tt
  pub exports-good : exports_tested (length g.file) g.exports g.export_count ≡ accepted tt

pub record Lists : Type 0 where
  pub exports : List (Entry ExportKey)
  pub needs : List (Entry Need)

abbrev pub lists : View → View → Lists
lists b c = record { exports = export_diff b c; needs = need_diff b c }

-- 13 at 8, then at 9, where a finished list has more rows than its table takes
unfoldable pub roomed : ℕ → ℕ → Lists → Said Lists
roomed room8 room9 l = follow (finished 8 room8 l.exports) (λ m. follow (finished 9 room9 l.needs) (λ n. accepted l))

-- 14, of either file; 15, the baseline's tables and then the candidate's; 13
unfoldable pub compared : Given → Given → ℕ → ℕ → Said Lists
compared b c room8 room9 =
    pick (ltb file_limit (length b.file)) (refused 14 (spot 0))
    (pick (ltb file_limit (length c.file)) (refused 14 (spot 0))
    (follow (tables_tested b)
    (λ u. follow (tables_tested c)
    (λ v. roomed room8 room9 (lists (viewed b) (viewed c))))))

-- ---- what is answered, and what is written
pub record Verdict : Type 0 where
  pub exports : ℕ
  pub capabilities : ℕ
  pub compatible : Bool

-- how long the lists are, and that no export was removed and no capability added
unfoldable pub verdict_on : Lists → Verdict
verdict_on l =
    record {
      exports = length l.exports;
      capabilities = length l.needs;
      compatible = has_no Removed l.exports && has_no Added l.needs;
    }

abbrev pub change_number : Change → ℕ
change_number Removed = 0
change_number Added = 1

-- a row of table 8, and of table 9
abbrev pub export_diff_cells : Entry ExportKey → List ℕ
export_diff_cells e = change_number e.change ∷ e.row.at ∷ []

abbrev pub need_diff_cells : Entry Need → List ℕ
need_diff_cells e = change_number e.change ∷ e.row.key.domain ∷ e.row.at ∷ []

-- after a refusal both tables are zero throughout
abbrev pub listed : Said Lists → Lists
listed (accepted l) = l
listed (refused n p) = record { exports = []; needs = [] }

pub record Compares (x : Said Lists) (before8 after8 before9 after9 : List ℕ) (a : Said Verdict) : Type 0 where
  pub answer-is : a ≡ follow x (λ l. accepted (verdict_on l))
  pub table8-is : after8 ≡ laid (length before8) (cells export_diff_cells (listed x).exports)
  pub table9-is : after9 ≡ laid (length before9) (cells need_diff_cells (listed x).needs)
