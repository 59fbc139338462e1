-- docs/RULES.md, "Differences": two builds, told in a struct of numbers, with the rows of their differences and the reasons as bytes.
-- Assumes nothing.
use Rattle.std.specs.Prelude.{ℕ, ◌*◌, ◌≤◌, Bool, false, List, ◌++◌, ltb, length, take}
use Rattle.refusal.specs.Pick.{pick}
use Rattle.refusal.specs.Sizes.{file_limit}
use Rattle.refusal.specs.Said.{Said, accepted, refused, follow, spot, Place, number_at, beside_at}
use Rattle.table.specs.Table.{laid, cells}
use Rattle.table.specs.Shape.{width, limit, full_cells}
use Rattle.output.specs.Cells.{cell_bytes}
use Rattle.wasm.specs.Rows as rows
use Rattle.wasm.specs.declared.Module.{Module}
use Rattle.wasm.specs.Module.{Sizes, Parsed, module_at, lend, ModuleIs}
use Rattle.conform.specs.Sound.{limits}
use Rattle.differences.specs.Compared.{Given, given, Lists, compared, Verdict, verdict_on, export_diff_cells, need_diff_cells}
use Rattle.output.specs.Bytes.{room_for}
use Rattle.reasons.specs.Reasons.{Diffs, diffs, reasons_tested, reasons_of}
use Rattle.listed.specs.Delivered.{Lays}
use Rattle.listed.specs.declared.comparison.ComparisonTold.{ComparisonTold}

-- a refusal: all but number, place and the offset beside it is zero
abbrev pub no_comparison : ℕ → Place → ComparisonTold
no_comparison n p =
    record {
      number = n;
      place = number_at p;
      offset = beside_at p;
      exports = 0;
      capabilities = 0;
      compatible = false;
      reasons = 0;
      bytes = 0;
    }

abbrev pub verdict : ℕ → ℕ → Bool → Verdict
verdict m n fine = record { exports = m; capabilities = n; compatible = fine }

-- a verdict with lists and reasons: the reasons are so many bytes, of so many that were written
abbrev pub comparison_by : Verdict → ℕ → Said ℕ → ComparisonTold
comparison_by v k (accepted n) =
    record {
      number = 0;
      place = 0;
      offset = 0;
      exports = v.exports;
      capabilities = v.capabilities;
      compatible = v.compatible;
      reasons = k;
      bytes = n;
    }
comparison_by v k (refused n p) = no_comparison n p

-- what is told of two builds: the two lists, and the text of the reasons
pub record Comparison : Type 0 where
  pub lists : Lists
  pub reasons : List ℕ

-- the rows of tables 8 and 9, then the reasons
unfoldable pub comparison_bytes : Comparison → List ℕ
comparison_bytes v = cell_bytes (cells export_diff_cells v.lists.exports ++ cells need_diff_cells v.lists.needs) ++ v.reasons

abbrev pub comparison_told : Said Comparison → ComparisonTold
comparison_told (accepted v) = comparison_by (verdict_on v.lists) (length v.reasons) (accepted (length (comparison_bytes v)))
comparison_told (refused n p) = no_comparison n p

-- the lists in tables at the limits
abbrev pub tabled : Lists → Diffs
tabled l =
    diffs (laid (full_cells 8) (cells export_diff_cells l.exports)) (length l.exports)
    (laid (full_cells 9) (cells need_diff_cells l.needs)) (length l.needs)

-- two modules that were read: their lists, and the reasons that their rows give
unfoldable pub explained : Given → Given → Said Comparison
explained b c =
    follow (compared b c (limit 8) (limit 9)) (λ l.
    follow (reasons_tested b c (tabled l)) (λ u. accepted (record { lists = l; reasons = reasons_of b c (tabled l) })))

-- what a read leaves of a module, in tables at the limits
abbrev pub build : List ℕ → Parsed → Given
build file m =
    given file (laid (full_cells 2) (cells rows.import_cells m.tables.imports)) (length m.tables.imports)
    (laid (full_cells 3) (cells rows.export_cells m.tables.exports)) (length m.tables.exports)

-- a module that was read against a candidate's file
unfoldable pub against : Given → List ℕ → Said Comparison
against b candidate = follow (module_at candidate limits) (λ m. explained b (build candidate m))

unfoldable pub builds : List ℕ → List ℕ → Said Comparison
builds baseline candidate = follow (module_at baseline limits) (λ m. against (build baseline m) candidate)

-- 14 of either file, the baseline's refusals, the candidate's
unfoldable pub comparison : List ℕ → List ℕ → Said Comparison
comparison baseline candidate =
    pick (ltb file_limit (length baseline)) (refused 14 (spot 0))
    (pick (ltb file_limit (length candidate)) (refused 14 (spot 0)) (builds baseline candidate))

-- ---- for the code
-- the promise of `read_module` on the imports and exports: there are sections and names beside them, in tables at the limits
abbrev pub RowsRead : List ℕ → ℕ → ℕ → List ℕ → List ℕ → Said Module → Type 0
RowsRead file i e imports exports a =
    let z : Sizes = record { sections = full_cells 1; imports = i; exports = e; names = full_cells 4 } in
    (s : List ℕ) × (n : List ℕ) × ModuleIs (length file) z (module_at file z) (lend s imports exports n) a

-- the counts are of rows that lie in the tables, which are at the limits
pub record ComparisonCounted (m n : ℕ) (xd cd : List ℕ) : Type 0 where
  pub exports-in : m * width 8 ≤ length xd
  pub needs-in : n * width 9 ≤ length cd
  pub exports-few : length xd ≤ full_cells 8
  pub needs-few : length cd ≤ full_cells 9

-- the bytes of the counted rows
abbrev pub taken_bytes : Diffs → List ℕ
taken_bytes d = cell_bytes (take (d.export_count * width 8) d.exports ++ take (d.need_count * width 9) d.needs)

-- then the reasons that the rows give, into so much room
unfoldable pub explained_bytes : Given → Given → Diffs → ℕ → Said (List ℕ)
explained_bytes b c d room = follow (reasons_tested b c d) (λ u. room_for (taken_bytes d ++ reasons_of b c d) room)

-- the promise of it: the answer, and the buffer, which was before and is after
abbrev pub Explains : Given → Given → Diffs → Bool → List ℕ → ComparisonTold → List ℕ → Type 0
Explains b c d fine before r after =
    Lays (comparison_by (verdict d.export_count d.need_count fine) (length (reasons_of b c d))) (explained_bytes b c d (length before))
    before r after
