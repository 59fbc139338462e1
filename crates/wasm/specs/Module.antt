-- docs/RULES.md, "The module" (Core Specification 2.0, 5.5.2, 5.5.16): header, sections, and what the four tables hold. Assumes nothing.
use Rattle.std.specs.Prelude.{ℕ, ◌≡◌, List, [], ◌∷◌, ◌++◌, length, ltb, eqb, None, Result}
use Rattle.refusal.specs.Pick.{pick}
use Rattle.refusal.specs.Sizes.{file_limit}
use Rattle.refusal.specs.Said.{Said, accepted, refused, said_by, relocated, follow, Got, got, onward, offset, spot}
use Rattle.refusal.specs.declared.Part.{Part}
use Rattle.refusal.specs.declared.Refusal.{Refusal}
use Rattle.text.specs.Find.{same}
use Rattle.table.specs.Table.{laid, cells}
use Rattle.table.specs.Shape.{capacity_in}
use Rattle.table.specs.Walking.{walk_from}
use Rattle.leb.specs.Reads.{part, part_bytes, byte_at, fixed_at, taken_at, counted_at}
use Rattle.wasm.specs.declared.entry.Import.{Import}
use Rattle.wasm.specs.declared.entry.Export.{Export}
use Rattle.wasm.specs.declared.section.Section.{Section}
use Rattle.wasm.specs.declared.section.Counts.{Counts}
use Rattle.wasm.specs.declared.section.Contents.{Contents}
use Rattle.wasm.specs.declared.Module.{Module}
use Rattle.wasm.specs.Rows.{import_cells, export_cells, symbol_cells, imports_of, exports_of}
use Rattle.wasm.specs.Custom.{Names, named_of, custom_at}

-- ---- what is read
-- the rows of the four tables, and the module's name
pub record Tables : Type 0 where
  pub sections : List Section
  pub imports : List Import
  pub exports : List Export
  pub names : Names

unfoldable pub no_tables : Tables
no_tables =
    record {
      sections = [];
      imports = [];
      exports = [];
      names = record { label = None; symbols = [] };
    }

abbrev pub with_section : Tables → Section → Tables
with_section t row = record { sections = t.sections ++ (row ∷ []); imports = t.imports; exports = t.exports; names = t.names }

abbrev pub with_imports : Tables → List Import → Tables
with_imports t rows = record { sections = t.sections; imports = rows; exports = t.exports; names = t.names }

abbrev pub with_exports : Tables → List Export → Tables
with_exports t rows = record { sections = t.sections; imports = t.imports; exports = rows; names = t.names }

abbrev pub with_names : Tables → Names → Tables
with_names t u = record { sections = t.sections; imports = t.imports; exports = t.exports; names = u }

-- how many cells each table has
pub record Sizes : Type 0 where
  pub sections : ℕ
  pub imports : ℕ
  pub exports : ℕ
  pub names : ℕ

-- ---- reading
-- what a section's contents come to: its own name, and the tables after it
pub record Inner : Type 0 where
  pub name : Part
  pub tables : Tables

-- a section without a name of its own
abbrev pub nameless : Tables → Inner
nameless t = record { name = part 0 0; tables = t }

-- the contents s, from base in the file: 0 may add names, 2 and 7 start their table anew, others are not looked into
unfoldable pub contents_at : ℕ → List ℕ → ℕ → Sizes → Tables → Said (Got Inner)
contents_at id s base z t =
    pick (eqb id 0)
    (onward (custom_at s base z.names t.names) (λ u e. accepted (got (record { name = u.name; tables = with_names t u.inner }) e)))
    (pick (eqb id 2) (onward (imports_of s base z.imports) (λ rows e. accepted (got (nameless (with_imports t rows)) e)))
    (pick (eqb id 7) (onward (exports_of s base z.exports) (λ rows e. accepted (got (nameless (with_exports t rows)) e)))
    (accepted (got (nameless t) 0))))

-- a section's row is added if table 1, of n cells, has room for it
unfoldable pub add_section : ℕ → Section → ℕ → Tables → Said (Got Tables)
add_section n row next t =
    pick (ltb (length t.sections) (capacity_in 1 n)) (accepted (got (with_section t row) next)) (refused 13 (spot 1))

-- the section at an offset of the file: an id, a size, and a payload that is whole; what its contents refuse is told from where the
-- file starts; the row is taken after the contents
unfoldable pub section_at : List ℕ → Sizes → ℕ → Tables → Said (Got Tables)
section_at b z at t =
    onward (byte_at b at) (λ id a.
    onward (counted_at b a) (λ p next.
    onward (relocated p.from (contents_at id (part_bytes b p) p.from z t)) (λ u e.
    add_section z.sections (record { id = id; from = p.from; size = p.len; name = u.name }) next u.tables)))

unfoldable pub magic : List ℕ
magic = 0x00 ∷ 0x61 ∷ 0x73 ∷ 0x6d ∷ []

-- the magic, then a version that is not zero
unfoldable pub header_at : List ℕ → Said (Got ℕ)
header_at b =
    onward (taken_at b 0 4) (λ p c.
    pick (same magic (part_bytes b p))
    (onward (fixed_at b c) (λ v d. pick (eqb v 0) (refused 2 (offset 4)) (accepted (got v d))))
    (refused 2 (offset 0)))

-- a module that was read
pub record Parsed : Type 0 where
  pub version : ℕ
  pub tables : Tables

-- the file: 14 first, then the header, then section after section
unfoldable pub module_at : List ℕ → Sizes → Said Parsed
module_at b z =
    pick (ltb file_limit (length b)) (refused 14 (spot 0))
    (onward (header_at b) (λ v c.
    onward (walk_from (section_at b z) b c no_tables) (λ t d.
    accepted (record { version = v; tables = t }))))

-- ---- the answer, and the lent tables
unfoldable pub counts_of : Tables → Counts
counts_of t =
    record {
      sections = length t.sections;
      imports = length t.imports;
      exports = length t.exports;
      named = named_of t.names;
    }

abbrev pub module_counted : ℕ → ℕ → Counts → Module
module_counted v n c =
    record {
      version = v;
      length = n;
      name = c.named.label;
      sections = c.sections;
      imports = c.imports;
      exports = c.exports;
      symbols = c.named.count;
    }

-- version, file length, the module's name, and how many rows each table has
unfoldable pub module_of : ℕ → Parsed → Module
module_of n m = module_counted m.version n (counts_of m.tables)

abbrev pub said_module : Result Module Refusal → Said Module
said_module = said_by

-- table 1: id, where the payload starts, its size, where a custom section's name is
unfoldable pub section_cells : Section → List ℕ
section_cells r = r.id ∷ r.from ∷ r.size ∷ r.name.from ∷ r.name.len ∷ []

-- the four tables as they are lent
pub record Lent : Type 0 where
  pub sections : List ℕ
  pub imports : List ℕ
  pub exports : List ℕ
  pub names : List ℕ

abbrev pub lend : List ℕ → List ℕ → List ℕ → List ℕ → Lent
lend s i e f = record { sections = s; imports = i; exports = e; names = f }

abbrev pub sizes : List ℕ → List ℕ → List ℕ → List ℕ → Sizes
sizes s i e f = record { sections = length s; imports = length i; exports = length e; names = length f }

-- the lent tables hold the rows, and zeros after them, in every cell
pub record Holds (l : Lent) (z : Sizes) (t : Tables) : Type 0 where
  pub sections-are : l.sections ≡ laid z.sections (cells section_cells t.sections)
  pub imports-are : l.imports ≡ laid z.imports (cells import_cells t.imports)
  pub exports-are : l.exports ≡ laid z.exports (cells export_cells t.exports)
  pub names-are : l.names ≡ laid z.names (cells symbol_cells t.names.symbols)

-- after a refusal every table is zero throughout
unfoldable pub tables_of : Said Parsed → Tables
tables_of (accepted m) = m.tables
tables_of (refused n p) = no_tables

-- the promise of `read_module`: the answer, and what every table holds at the end
pub record ModuleIs (n : ℕ) (z : Sizes) (x : Said Parsed) (l : Lent) (a : Said Module) : Type 0 where
  pub answer-is : a ≡ follow x (λ m. accepted (module_of n m))
  pub tables-are : Holds l z (tables_of x)

-- ---- for the code
unfoldable pub contents_of : Inner → Contents
contents_of u = record { name = u.name; counts = counts_of u.tables }

-- the lent tables hold what a section's contents came to
unfoldable pub Inside : Lent → Sizes → Inner → Type 0
Inside l z u = Holds l z u.tables
