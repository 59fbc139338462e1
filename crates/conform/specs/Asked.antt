-- docs/RULES.md, "Tables", table 2: the cells of a row from its kind on, for every row that the reader leaves, and by the specification's
-- productions. Assumes nothing.
use Rattle.std.specs.Prelude.{ℕ, ◌%◌, ◌≡◌, List, [], ◌∷◌, drop}
use Rattle.refusal.specs.Said.{Said, accepted, follow}
use Rattle.table.specs.Table.{cells}
use Rattle.wasm.specs.Shapes.{Import}
use Rattle.wasm.specs.Rows.{import_cells}
use Rattle.wasm.specs.Module.{module_at}
use Rattle.conform.specs.Grammar.{ref_byte, val_byte, mut_byte, Lim, least, between, DescOf, ImportOf}
use Rattle.conform.specs.Claims.{desc_kind, import_said, ImportHere}
use Rattle.conform.specs.Sound.{ImportOk, limits}
use Rattle.conform.specs.Beyond.{file}

-- ---- every row
-- kind; type index; type byte; flag, least, most; mutability; given: bit c - 5 says that the number in cell c is there. By the kind, and
-- for limits by bit 0 of the flag
pub data CellsFit : List ℕ → Type 0 where
  function : {x : ℕ} → CellsFit (0 ∷ x ∷ 0 ∷ 0 ∷ 0 ∷ 0 ∷ 0 ∷ 1 ∷ [])
  table : {e f n : ℕ} → f % 2 ≡ 0 → CellsFit (1 ∷ 0 ∷ e ∷ f ∷ n ∷ 0 ∷ 0 ∷ 14 ∷ [])
  table-most : {e f n k : ℕ} → f % 2 ≡ 1 → CellsFit (1 ∷ 0 ∷ e ∷ f ∷ n ∷ k ∷ 0 ∷ 30 ∷ [])
  memory : {f n : ℕ} → f % 2 ≡ 0 → CellsFit (2 ∷ 0 ∷ 0 ∷ f ∷ n ∷ 0 ∷ 0 ∷ 12 ∷ [])
  memory-most : {f n k : ℕ} → f % 2 ≡ 1 → CellsFit (2 ∷ 0 ∷ 0 ∷ f ∷ n ∷ k ∷ 0 ∷ 28 ∷ [])
  global : {t m : ℕ} → CellsFit (3 ∷ 0 ∷ t ∷ 0 ∷ 0 ∷ 0 ∷ m ∷ 34 ∷ [])

-- so a row that the reader leaves never gives 15
abbrev pub RowsFit : Type 0
RowsFit = (n : ℕ) (r : Import) → ImportOk n r → CellsFit (drop 4 (import_cells r))

-- ---- by production: typeidx; tabletype; memtype; globaltype
abbrev pub table_asks : ℕ → Lim → List ℕ
table_asks e (least n) = 0 ∷ e ∷ 0 ∷ n ∷ 0 ∷ 0 ∷ 14 ∷ []
table_asks e (between n k) = 0 ∷ e ∷ 1 ∷ n ∷ k ∷ 0 ∷ 30 ∷ []

abbrev pub memory_asks : Lim → List ℕ
memory_asks (least n) = 0 ∷ 0 ∷ 0 ∷ n ∷ 0 ∷ 0 ∷ 12 ∷ []
memory_asks (between n k) = 0 ∷ 0 ∷ 1 ∷ n ∷ k ∷ 0 ∷ 28 ∷ []

abbrev pub asks_for : DescOf → List ℕ
asks_for (DescOf.func x) = x ∷ 0 ∷ 0 ∷ 0 ∷ 0 ∷ 0 ∷ 1 ∷ []
asks_for (DescOf.table t) = table_asks (ref_byte t.element) t.limits
asks_for (DescOf.mem m) = memory_asks m
asks_for (DescOf.global g) = 0 ∷ val_byte g.value ∷ 0 ∷ 0 ∷ 0 ∷ mut_byte g.mut ∷ 34 ∷ []

-- the row of an import that the specification derives has those cells
abbrev pub CellsSay : Type 0
CellsSay =
    (b : List ℕ) (row : Import) (v : ImportOf) → ImportHere b row (import_said v)
    → drop 4 (import_cells row) ≡ desc_kind v.desc ∷ asks_for v.desc

-- ---- worked cases: a file's rows of table 2, all their cells
abbrev pub import_rows : List ℕ → Said (List ℕ)
import_rows l = follow (module_at (file l) limits) (λ m. accepted (cells import_cells m.tables.imports))

pub record RowsWorked : Type 0 where
  pub function : import_rows (0x02 ∷ 0x07 ∷ 0x01 ∷ 0x01 ∷ 0x6D ∷ 0x01 ∷ 0x66 ∷ 0x00 ∷ 0x05 ∷ [])
      ≡ accepted (12 ∷ 1 ∷ 14 ∷ 1 ∷ 0 ∷ 5 ∷ 0 ∷ 0 ∷ 0 ∷ 0 ∷ 0 ∷ 1 ∷ [])
  -- an index that is there and zero
  pub zero : import_rows (0x02 ∷ 0x07 ∷ 0x01 ∷ 0x01 ∷ 0x6D ∷ 0x01 ∷ 0x66 ∷ 0x00 ∷ 0x00 ∷ [])
      ≡ accepted (12 ∷ 1 ∷ 14 ∷ 1 ∷ 0 ∷ 0 ∷ 0 ∷ 0 ∷ 0 ∷ 0 ∷ 0 ∷ 1 ∷ [])
  pub table : import_rows (0x02 ∷ 0x0A ∷ 0x01 ∷ 0x01 ∷ 0x6D ∷ 0x01 ∷ 0x66 ∷ 0x01 ∷ 0x6F ∷ 0x01 ∷ 0x03 ∷ 0x04 ∷ [])
      ≡ accepted (12 ∷ 1 ∷ 14 ∷ 1 ∷ 1 ∷ 0 ∷ 111 ∷ 1 ∷ 3 ∷ 4 ∷ 0 ∷ 30 ∷ [])
  pub memory : import_rows (0x02 ∷ 0x09 ∷ 0x01 ∷ 0x01 ∷ 0x6D ∷ 0x01 ∷ 0x66 ∷ 0x02 ∷ 0x01 ∷ 0x01 ∷ 0x02 ∷ [])
      ≡ accepted (12 ∷ 1 ∷ 14 ∷ 1 ∷ 2 ∷ 0 ∷ 0 ∷ 1 ∷ 1 ∷ 2 ∷ 0 ∷ 28 ∷ [])
  -- a flag is stored as it is
  pub flag : import_rows (0x02 ∷ 0x08 ∷ 0x01 ∷ 0x01 ∷ 0x6D ∷ 0x01 ∷ 0x66 ∷ 0x02 ∷ 0x02 ∷ 0x01 ∷ [])
      ≡ accepted (12 ∷ 1 ∷ 14 ∷ 1 ∷ 2 ∷ 0 ∷ 0 ∷ 2 ∷ 1 ∷ 0 ∷ 0 ∷ 12 ∷ [])
  pub global : import_rows (0x02 ∷ 0x08 ∷ 0x01 ∷ 0x01 ∷ 0x6D ∷ 0x01 ∷ 0x66 ∷ 0x03 ∷ 0x7F ∷ 0x01 ∷ [])
      ≡ accepted (12 ∷ 1 ∷ 14 ∷ 1 ∷ 3 ∷ 0 ∷ 127 ∷ 0 ∷ 0 ∷ 0 ∷ 1 ∷ 34 ∷ [])
