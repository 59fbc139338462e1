-- docs/PROMISES.md, "The module": what holds of the rows that the reader leaves, whatever the file; and of the room that it is lent.
-- docs/RULES.md, "Numbered answers": a row of which this holds never gives 15. Assumes nothing.
use Rattle.std.specs.Prelude.{ℕ, ◌+◌, ◌*◌, ◌%◌, ◌^◌, ◌≤◌, ◌<◌, ◌≡◌, List, [], ◌∷◌, length, Some, None}
use Rattle.refusal.specs.Said.{accepted, refused, Place}
use Rattle.refusal.specs.declared.Part.{Part}
use Rattle.table.specs.Shape.{width, full_cells, capacity_in}
use Rattle.refusal.specs.Each.{Each}
use Rattle.wasm.specs.Shapes.{Limits, Desc, func, table_desc, memory, global, Import, Export, Symbol, Section}
use Rattle.wasm.specs.Custom.{Names}
use Rattle.wasm.specs.Module.{Tables, Sizes, Parsed, module_at}
use Rattle.conform.specs.Claims.{Bytes, Room, Derives}

-- ---- a file of n bytes
abbrev pub InFile : ℕ → Part → Type 0
InFile n p = p.from + p.len ≤ n

-- bit 0 of the flag says whether there is a most
pub data LimitsFit : Limits → Type 0 where
  even : {f n : ℕ} → f < 256 → f % 2 ≡ 0 → n < 2 ^ 32 → LimitsFit (record { flag = f; least = n; most = None })
  odd : {f n k : ℕ} → f < 256 → f % 2 ≡ 1 → n < 2 ^ 32 → k < 2 ^ 32 → LimitsFit (record { flag = f; least = n; most = Some k })

-- what an import asks for is of its kind: an index; an element type and limits; limits; a value type and mutability
pub data DescFits : ℕ → Desc → Type 0 where
  function : {x : ℕ} → x < 2 ^ 32 → DescFits 0 (func x)
  tables : {e : ℕ} {m : Limits} → e < 256 → LimitsFit m → DescFits 1 (table_desc e m)
  memories : {m : Limits} → LimitsFit m → DescFits 2 (memory m)
  globals : {t m : ℕ} → t < 256 → m < 256 → DescFits 3 (global t m)

pub record ImportOk (n : ℕ) (r : Import) : Type 0 where
  pub module-in : InFile n r.«module»
  pub field_in : InFile n r.field
  pub kind-small : r.kind < 4
  pub desc-fits : DescFits r.kind r.desc

pub record ExportOk (n : ℕ) (r : Export) : Type 0 where
  pub name-in-file : InFile n r.name
  pub kind-byte : r.kind < 256
  pub index-small : r.index < 2 ^ 32

pub record SymbolOk (n : ℕ) (r : Symbol) : Type 0 where
  pub index-small : r.index < 2 ^ 32
  pub name-in-file : InFile n r.name

pub record SectionOk (n : ℕ) (r : Section) : Type 0 where
  pub id-byte : r.id < 256
  pub payload-in : r.from + r.size ≤ n
  pub name-in-file : InFile n r.name

-- rows, and no more of them than the table holds
pub record NamesOk (n : ℕ) (z : Sizes) (t : Names) : Type 0 where
  pub label-in : (p : Part) → t.label ≡ Some p → InFile n p
  pub symbols-ok : Each (SymbolOk n) t.symbols
  pub symbols-few : length t.symbols ≤ capacity_in 4 z.names

pub record TablesOk (n : ℕ) (z : Sizes) (t : Tables) : Type 0 where
  pub sections-ok : Each (SectionOk n) t.sections
  pub sections-few : length t.sections ≤ capacity_in 1 z.sections
  pub imports-ok : Each (ImportOk n) t.imports
  pub imports-few : length t.imports ≤ capacity_in 2 z.imports
  pub exports-ok : Each (ExportOk n) t.exports
  pub exports-few : length t.exports ≤ capacity_in 3 z.exports
  pub names-ok : NamesOk n z t.names

-- payloads that lie between a and e, each after the one before it
pub data Apart : ℕ → List Section → ℕ → Type 0 where
  last : {a e : ℕ} → a ≤ e → Apart a [] e
  next : {a e : ℕ} {r : Section} {rs : List Section} → a < r.from → Apart (r.from + r.size) rs e → Apart a (r ∷ rs) e

-- ---- the claims
-- every row that an accepted read leaves is sound, and payloads follow the header one after another, within the file
pub record ModuleOk (b : List ℕ) (z : Sizes) (m : Parsed) : Type 0 where
  pub version-is : (0 < m.version) × (m.version < 2 ^ 32)
  pub rows_ok : TablesOk (length b) z m.tables
  pub payloads-apart : Apart 8 m.tables.sections (length b)

abbrev pub RowsSound : Type 0
RowsSound = (b : List ℕ) (z : Sizes) (m : Parsed) → Bytes b → module_at b z ≡ accepted m → ModuleOk b z m

-- names do not share bytes: those of table 2 have together no more than the file, and so have those of table 3
unfoldable pub total : {E : Type 0} → (E → ℕ) → List E → ℕ
total size [] = 0
total size (r ∷ rs) = size r + total size rs

abbrev pub import_size : Import → ℕ
import_size r = r.«module».len + r.field.len

abbrev pub export_size : Export → ℕ
export_size r = r.name.len

pub record Together (n : ℕ) (t : Tables) : Type 0 where
  pub imports : total import_size t.imports ≤ n
  pub exports : total export_size t.exports ≤ n

abbrev pub NamesTogether : Type 0
NamesTogether = (b : List ℕ) (z : Sizes) (m : Parsed) → module_at b z ≡ accepted m → Together (length b) m.tables

-- w has at least the room of z
pub record Larger (z w : Sizes) : Type 0 where
  pub sections : capacity_in 1 z.sections ≤ capacity_in 1 w.sections
  pub imports : capacity_in 2 z.imports ≤ capacity_in 2 w.imports
  pub exports : capacity_in 3 z.exports ≤ capacity_in 3 w.exports
  pub names : capacity_in 4 z.names ≤ capacity_in 4 w.names

-- a file that is accepted with some tables is accepted with larger ones: the same version and rows
abbrev pub LargerSame : Type 0
LargerSame = (b : List ℕ) (z w : Sizes) (m : Parsed) → Larger z w → module_at b z ≡ accepted m → module_at b w ≡ accepted m

-- and one that is refused, but for want of room, is refused in the same way
abbrev pub RefusedSame : Type 0
RefusedSame =
    (b : List ℕ) (z w : Sizes) (n : ℕ) (p : Place) → Larger z w → (n ≡ 13 → ⊥) → module_at b z ≡ refused n p → module_at b w ≡ refused n p

-- tables at the limits
abbrev pub limits : Sizes
limits = record { sections = full_cells 1; imports = full_cells 2; exports = full_cells 3; names = full_cells 4 }

-- so "accepted" can be said of the file alone: what some tables accept, tables at the limits do
abbrev pub LimitsDecide : Type 0
LimitsDecide = (b : List ℕ) (z : Sizes) (m : Parsed) → module_at b z ≡ accepted m → module_at b limits ≡ accepted m

-- and no two sizes of tables give two modules
abbrev pub OneModule : Type 0
OneModule = (b : List ℕ) (z w : Sizes) (m n : Parsed) → module_at b z ≡ accepted m → module_at b w ≡ accepted n → m ≡ n

-- nor is more room needed than what is read takes, section by section: with that much the file is accepted, with the same rows
abbrev pub EnoughRoom : Type 0
EnoughRoom =
    (b : List ℕ) (z w : Sizes) (m : Parsed) → module_at b z ≡ accepted m → (d : Derives b z m) → Room w d.sections
    → module_at b w ≡ accepted m

-- ---- for the code: tables for few rows, 16 to a table and 8 function names
abbrev pub few : Sizes
few = record { sections = 16 * width 1; imports = 16 * width 2; exports = 16 * width 3; names = 8 * width 4 }
