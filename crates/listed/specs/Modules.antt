-- docs/RULES.md, "The module": a module's file, told in a struct of numbers, and its rows as bytes. Assumes nothing.
use Rattle.std.specs.Prelude.{ℕ, ◌*◌, ◌≤◌, ◌≡◌, false, Option, Some, None, is_some, List, ◌++◌, length, take}
use Rattle.std.specs.Option.{unwrap_or}
use Rattle.refusal.specs.Said.{Said, accepted, refused, Place, spot, number_at, beside_at}
use Rattle.table.specs.Table.{cells}
use Rattle.table.specs.Shape.{width, full_cells}
use Rattle.output.specs.Cells.{cell_bytes}
use Rattle.wasm.specs.Rows.{import_cells, export_cells, symbol_cells}
use Rattle.wasm.specs.Module.{Sizes, Parsed, module_at, module_of, section_cells, Lent}
use Rattle.wasm.specs.declared.Module.{Module}
use Rattle.conform.specs.Sound.{limits}
use Rattle.listed.specs.Delivered.{no_part, Delivers}
use Rattle.listed.specs.declared.modules.ModuleTold.{ModuleTold}

-- a refusal: all but number, place and the offset beside it is zero
abbrev pub no_module : ℕ → Place → ModuleTold
no_module n p =
    record {
      number = n;
      place = number_at p;
      offset = beside_at p;
      version = 0;
      length = 0;
      named = false;
      start = 0;
      size = 0;
      sections = 0;
      imports = 0;
      exports = 0;
      symbols = 0;
      bytes = 0;
    }

-- a module of which so many bytes were written
abbrev pub module_by : Module → Said ℕ → ModuleTold
module_by m (accepted n) =
    record {
      number = 0;
      place = 0;
      offset = 0;
      version = m.version;
      length = m.length;
      named = is_some m.name;
      start = (unwrap_or m.name no_part).from;
      size = (unwrap_or m.name no_part).len;
      sections = m.sections;
      imports = m.imports;
      exports = m.exports;
      symbols = m.symbols;
      bytes = n;
    }
module_by m (refused n p) = no_module n p

-- the rows of tables 1 to 4
unfoldable pub module_bytes : Parsed → List ℕ
module_bytes m =
    cell_bytes (
    cells section_cells m.tables.sections
    ++ cells import_cells m.tables.imports
    ++ cells export_cells m.tables.exports
    ++ cells symbol_cells m.tables.names.symbols)

-- of a file of n bytes
abbrev pub module_told : ℕ → Said Parsed → ModuleTold
module_told n (accepted m) = module_by (module_of n m) (accepted (length (module_bytes m)))
module_told n (refused k p) = no_module k p

-- ---- for the code
-- tables within the limits
pub record TablesWithin (l : Lent) : Type 0 where
  pub sections-few : length l.sections ≤ full_cells 1
  pub imports-few : length l.imports ≤ full_cells 2
  pub exports-few : length l.exports ≤ full_cells 3
  pub names-few : length l.names ≤ full_cells 4

-- the counts are of rows that lie in them
pub record ModuleCounted (m : Module) (l : Lent) : Type 0 where
  pub sections-in : m.sections * width 1 ≤ length l.sections
  pub imports-in : m.imports * width 2 ≤ length l.imports
  pub exports-in : m.exports * width 3 ≤ length l.exports
  pub names_in : m.symbols * width 4 ≤ length l.names
  pub within : TablesWithin l

-- the bytes of the counted rows
abbrev pub taken_bytes : Module → Lent → List ℕ
taken_bytes m l =
    cell_bytes (
    take (m.sections * width 1) l.sections
    ++ take (m.imports * width 2) l.imports
    ++ take (m.exports * width 3) l.exports
    ++ take (m.symbols * width 4) l.names)

-- tables of so many cells
abbrev pub sized : ℕ → ℕ → ℕ → ℕ → Sizes
sized s i e n = record { sections = s; imports = i; exports = e; names = n }

-- a file that was read with tables of such sizes: it is told as with tables at the limits; or the buffer is as it was, and a table was full
abbrev pub Tried : Sizes → List ℕ → List ℕ → Option ModuleTold → List ℕ → Type 0
Tried z file d (Some r) y = Delivers module_bytes (module_told (length file)) (module_at file limits) d r y
Tried z file d None y = (y ≡ d) × (k : ℕ) × (module_at file z ≡ refused 13 (spot k))
