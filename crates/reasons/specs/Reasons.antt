-- docs/RULES.md, "Differences": the reasons, a line for each removed row of table 8, then one for each added row of table 9.
-- Assumes nothing.
use Rattle.std.specs.Prelude.{◌≡◌, Bool, List, [], ◌∷◌, ◌++◌, ℕ, zero, suc, ◌≤◌, ◌<◌, eqb, leb, ltb, length, Result}
use Rattle.refusal.specs.Pick.{pick, both}
use Rattle.refusal.specs.declared.Refusal.{Refusal}
use Rattle.refusal.specs.Said.{Said, follow}
use Rattle.table.specs.Shape.{width, capacity_in, cell_in}
use Rattle.table.specs.Testing.{bad, tested}
use Rattle.sorting.specs.Keys.{row_name}
use Rattle.domains.specs.Domain.{slug}
use Rattle.differences.specs.View.{ExportKey, export_key_at}
use Rattle.differences.specs.Differences.{kind_slug}
use Rattle.differences.specs.Compared.{Given, both_tested}
use Rattle.reasons.specs.declared.GivenDiffs.{GivenDiffs}
use Rattle.output.specs.Bytes.{room_for, WriterTells, room_from, WriterTellsFrom}

-- ---- the lines
-- `export removed: `
abbrev pub export_removed : List ℕ
export_removed = 101 ∷ 120 ∷ 112 ∷ 111 ∷ 114 ∷ 116 ∷ 32 ∷ 114 ∷ 101 ∷ 109 ∷ 111 ∷ 118 ∷ 101 ∷ 100 ∷ 58 ∷ 32 ∷ []

-- `new capability required: `
abbrev pub capability_required : List ℕ
capability_required =
    110 ∷ 101 ∷ 119 ∷ 32 ∷ 99 ∷ 97 ∷ 112 ∷ 97 ∷ 98 ∷ 105 ∷ 108 ∷ 105 ∷ 116 ∷ 121 ∷ 32
    ∷ 114 ∷ 101 ∷ 113 ∷ 117 ∷ 105 ∷ 114 ∷ 101 ∷ 100 ∷ 58 ∷ 32 ∷ []

-- ` via `
abbrev pub via : List ℕ
via = 32 ∷ 118 ∷ 105 ∷ 97 ∷ 32 ∷ []

-- `export removed: NAME (KIND)`, LF
unfoldable pub export_reason : ExportKey → List ℕ
export_reason e = export_removed ++ (e.name ++ ((32 ∷ 40 ∷ []) ++ (kind_slug e.kind ++ (41 ∷ 10 ∷ []))))

-- `new capability required: DOMAIN via SOURCE`, LF; the domain is that of the row's cell
unfoldable pub need_reason : ℕ → List ℕ → List ℕ
need_reason domain source = capability_required ++ (slug domain ++ (via ++ (source ++ (10 ∷ []))))

-- the lines of the rows below n
unfoldable pub reason_lines : (ℕ → List ℕ) → ℕ → List ℕ
reason_lines line zero = []
reason_lines line (suc n) = reason_lines line n ++ line n

-- ---- what is handed in besides the two modules: table 8 and a count, table 9 and a count
pub record Diffs : Type 0 where
  pub exports : List ℕ
  pub export_count : ℕ
  pub needs : List ℕ
  pub need_count : ℕ

abbrev pub diffs : List ℕ → ℕ → List ℕ → ℕ → Diffs
diffs xd n cd m = record { exports = xd; export_count = n; needs = cd; need_count = m }

-- of the struct that the code hands in
abbrev pub diffs_of : GivenDiffs → Diffs
diffs_of d = diffs d.exports.cells.now d.exports.count d.needs.cells.now d.needs.count

-- one by the change cell of row i: 0 is removed, any other number added
abbrev pub by_change : {A : Type 0} → ℕ → List ℕ → ℕ → A → A → A
by_change t table i gone new = pick (eqb (cell_in t table i 0) 0) gone new

-- row i of table 8: the reason where the export was removed; it is named in the baseline
unfoldable pub export_row : List ℕ → List ℕ → List ℕ → ℕ → List ℕ
export_row file exports xd i = by_change 8 xd i (export_reason (export_key_at file exports (cell_in 8 xd i 1))) []

-- row i of table 9: the reason where the capability was added; it is named in the candidate
unfoldable pub need_row : List ℕ → List ℕ → List ℕ → ℕ → List ℕ
need_row file imports cd i =
    by_change 9 cd i [] (need_reason (cell_in 9 cd i 1) (row_name file imports (width 2) 0 1 (cell_in 9 cd i 2)))

abbrev pub export_reasons : List ℕ → List ℕ → List ℕ → ℕ → List ℕ
export_reasons file exports xd = reason_lines (export_row file exports xd)

abbrev pub need_reasons : List ℕ → List ℕ → List ℕ → ℕ → List ℕ
need_reasons file imports cd = reason_lines (need_row file imports cd)

unfoldable pub reasons_of : Given → Given → Diffs → List ℕ
reasons_of b c d =
    export_reasons b.file b.exports d.exports d.export_count
    ++ need_reasons c.file c.imports d.needs d.need_count

-- ---- 15
-- row i of table 8 is below the count of the table that it points into: the baseline's where the export was removed, else the
-- candidate's
unfoldable pub export_diff_fits : ℕ → ℕ → List ℕ → ℕ → Bool
export_diff_fits nb nc xd i = ltb (cell_in 8 xd i 1) (by_change 8 xd i nb nc)

-- and so is row i of table 9; its domain is at most 6
unfoldable pub need_diff_fits : ℕ → ℕ → List ℕ → ℕ → Bool
need_diff_fits nb nc cd i = both (leb (cell_in 9 cd i 1) 6) (ltb (cell_in 9 cd i 2) (by_change 9 cd i nb nc))

-- table 8, whose rows point into tables of nb and of nc rows; table 9 likewise
unfoldable pub export_diffs_tested : ℕ → ℕ → List ℕ → ℕ → Said (Unit {0})
export_diffs_tested nb nc xd n = tested (capacity_in 8 (length xd)) n (bad (export_diff_fits nb nc xd))

unfoldable pub need_diffs_tested : ℕ → ℕ → List ℕ → ℕ → Said (Unit {0})
need_diffs_tested nb nc cd n = tested (capacity_in 9 (length cd)) n (bad (need_diff_fits nb nc cd))

-- table 8, then table 9
unfoldable pub diffs_tested : ℕ → ℕ → ℕ → ℕ → Diffs → Said (Unit {0})
diffs_tested nbe nce nbi nci d =
    follow (export_diffs_tested nbe nce d.exports d.export_count) (λ u. need_diffs_tested nbi nci d.needs d.need_count)

-- 14 and 15 of both modules, then 15 of tables 8 and 9
unfoldable pub reasons_tested : Given → Given → Diffs → Said (Unit {0})
reasons_tested b c d =
    follow (both_tested b c) (λ u. diffs_tested b.export_count c.export_count b.import_count c.import_count d)

-- ---- the bytes into so much room: 14, 15, then 16 with the bytes needed
unfoldable pub reasoned : Given → Given → Diffs → ℕ → Said (List ℕ)
reasoned b c d room = follow (reasons_tested b c d) (λ u. room_for (reasons_of b c d) room)

-- the promise: the answer, and the buffer, which was before and is after
abbrev pub Reasons : Given → Given → Diffs → List ℕ → Result ℕ Refusal → List ℕ → Type 0
Reasons b c d before r after = WriterTells (reasoned b c d (length before)) before r after

-- the same after the first `at` bytes of the buffer
unfoldable pub reasoned_from : ℕ → Given → Given → Diffs → ℕ → Said (List ℕ)
reasoned_from at b c d room = follow (reasons_tested b c d) (λ u. room_from at (reasons_of b c d) room)

abbrev pub ReasonsFrom : ℕ → Given → Given → Diffs → List ℕ → Result ℕ Refusal → List ℕ → Type 0
ReasonsFrom at b c d before r after = WriterTellsFrom at (reasoned_from at b c d (length before)) before r after

-- ---- for the code: the kind of a removed export is a byte
abbrev pub KindFits : List ℕ → List ℕ → ℕ → Type 0
KindFits exports xd i = cell_in 8 xd i 0 ≡ 0 → cell_in 3 exports (cell_in 8 xd i 1) 2 ≤ 255

abbrev pub KindsFit : List ℕ → List ℕ → ℕ → Type 0
KindsFit exports xd n = (i : ℕ) → i < n → KindFits exports xd i
