-- docs/DIFFERENCES.md, "The module": one law for each difference between the reader and the specification's grammar, and smallest inputs.
-- All that is accepted, and as what, is Port.antt's (Claims: `AnyConform`, `OnlyThese`); here are laws of the reader itself.
-- Assumes nothing.
use Rattle.std.specs.Prelude.{ℕ, ◌+◌, ◌%◌, ◌^◌, ◌≤◌, ◌<◌, ◌≡◌, List, [], ◌∷◌, ◌++◌, length, drop, Some, None}
use Rattle.refusal.specs.Said.{accepted, refused, Place, moved_by, got, offset}
use Rattle.refusal.specs.declared.Part.{Part}
use Rattle.refusal.specs.Sizes.{file_limit}
use Rattle.leb.specs.Grammar.{U}
use Rattle.leb.specs.Reads.{part, part_bytes, byte_at, u32_at, name_at, counted_at}
use Rattle.wasm.specs.Shapes.{Limits, Import, Export, Section, table_desc, global}
use Rattle.wasm.specs.Entry.{limits_at, table_at, global_at, export_at, moved}
use Rattle.wasm.specs.Rows.{imports_of, exports_of}
use Rattle.wasm.specs.Custom.{Names, told_by, custom_at}
use Rattle.wasm.specs.Module.{Tables, Sizes, with_imports, with_exports, nameless, contents_at, section_at, header_at, no_tables, module_at}
use Rattle.conform.specs.Port.{version_of, AnyHeader}
use Rattle.conform.specs.Sound.{limits}

-- ---- accepted beyond the grammar
-- the header: exactly the magic with any version but zero
pub record AnyVersion (b : List ℕ) : Type 0 where
  pub taken : AnyHeader b → header_at b ≡ accepted (got (version_of b) 8)
  pub only : (v d : ℕ) → header_at b ≡ accepted (got v d) → AnyHeader b × (v ≡ version_of b) × (d ≡ 8)

-- whatever is accepted as the contents of an import or export section or of a name subsection is accepted with any bytes after it: the
-- same rows
pub record UnusedBytes (s more : List ℕ) (base n : ℕ) : Type 0 where
  pub imports : (rows : List Import) (d : ℕ) → imports_of s base n ≡ accepted (got rows d)
      → imports_of (s ++ more) base n ≡ accepted (got rows d)
  pub exports : (rows : List Export) (d : ℕ) → exports_of s base n ≡ accepted (got rows d)
      → exports_of (s ++ more) base n ≡ accepted (got rows d)
  pub names : (id : ℕ) (t u : Names) (d : ℕ) → told_by id s base n t ≡ accepted (got u d)
      → told_by id (s ++ more) base n t ≡ accepted (got u d)

-- an import or export section starts its table anew, whatever the tables t hold
pub record StartAnew (s : List ℕ) (base : ℕ) (z : Sizes) (t : Tables) : Type 0 where
  pub imports : (rows : List Import) (d : ℕ) → imports_of s base z.imports ≡ accepted (got rows d)
      → contents_at 2 s base z t ≡ accepted (got (nameless (with_imports t rows)) d)
  pub exports : (rows : List Export) (d : ℕ) → exports_of s base z.exports ≡ accepted (got rows d)
      → contents_at 7 s base z t ≡ accepted (got (nameless (with_exports t rows)) d)

-- a section of any other id, above 12 too, is recorded and not looked into
abbrev pub AnyId : Type 0
AnyId =
    (id : ℕ) (s : List ℕ) (base : ℕ) (z : Sizes) (t : Tables) → (id ≡ 0 → ⊥) → (id ≡ 2 → ⊥) → (id ≡ 7 → ⊥)
    → contents_at id s base z t ≡ accepted (got (nameless t) 0)

-- of a limits flag only bit 0 counts
pub record FlagBits (s : List ℕ) (at f a n c : ℕ) (flag : byte_at s at ≡ accepted (got f a)) (low : u32_at s a ≡ accepted (got n c))
    : Type 0 where
  pub even : f % 2 ≡ 0 → limits_at s at ≡ accepted (got (record { flag = f; least = n; most = None }) c)
  pub odd : f % 2 ≡ 1 → (m d : ℕ) → u32_at s c ≡ accepted (got m d)
      → limits_at s at ≡ accepted (got (record { flag = f; least = n; most = Some m }) d)

-- an export's kind may be any byte
abbrev pub ExportKinds : Type 0
ExportKinds =
    (s : List ℕ) (base at : ℕ) (p : Part) (a kind c index d : ℕ) → name_at s at ≡ accepted (got p a) → byte_at s a ≡ accepted (got kind c)
    → u32_at s c ≡ accepted (got index d)
    → export_at s base at ≡ accepted (got (record { name = moved base p; kind = kind; index = index }) d)

-- so may a table's element type
abbrev pub ElementTypes : Type 0
ElementTypes =
    (s : List ℕ) (at e a : ℕ) (l : Limits) (d : ℕ) → byte_at s at ≡ accepted (got e a) → limits_at s a ≡ accepted (got l d)
    → table_at s at ≡ accepted (got (table_desc e l) d)

-- and a global's value type and mutability
abbrev pub GlobalTypes : Type 0
GlobalTypes =
    (s : List ℕ) (at v a m d : ℕ) → byte_at s at ≡ accepted (got v a) → byte_at s a ≡ accepted (got m d)
    → global_at s at ≡ accepted (got (global v m) d)

-- a section's size, as every u32, may take ten bytes (leb, proofs/Beyond: `u32-long`, `u32-only`)
abbrev pub LongSizes : Type 0
LongSizes =
    (s : List ℕ) (at n k : ℕ) → U 64 (drop at s) n k → n < 2 ^ 32 → length s < 2 ^ 64 → at + k + n ≤ length s
    → counted_at s at ≡ accepted (got (part (at + k) n) (at + k + n))

-- ---- refused although the specification forgives it
-- the reader of b comes to an offset with the tables t: from the header on, section after section
pub data Comes (b : List ℕ) (z : Sizes) : ℕ → Tables → Type 0 where
  start : AnyHeader b → length b ≤ file_limit → Comes b z 8 no_tables
  after : {at d : ℕ} {t u : Tables} → Comes b z at t → section_at b z at t ≡ accepted (got u d) → Comes b z d u

-- the first section that is refused refuses the file
abbrev pub FirstRefusal : Type 0
FirstRefusal =
    (b : List ℕ) (z : Sizes) (at n : ℕ) (p : Place) (t : Tables) → Comes b z at t → at < length b → section_at b z at t ≡ refused n p
    → module_at b z ≡ refused n p

-- and so a custom section whose contents are refused, as a faulty name section's are: with that number, and the place from byte 0
abbrev pub FaultyNames : Type 0
FaultyNames =
    (b : List ℕ) (z : Sizes) (at a d n : ℕ) (q : Place) (t : Tables) (p : Part) → Comes b z at t → byte_at b at ≡ accepted (got 0 a)
    → counted_at b a ≡ accepted (got p d) → custom_at (part_bytes b p) p.from z.names t.names ≡ refused n q
    → module_at b z ≡ refused n (moved_by p.from q)

-- ---- smallest inputs
abbrev pub file : List ℕ → List ℕ
file l = 0x00 ∷ 0x61 ∷ 0x73 ∷ 0x6D ∷ 0x01 ∷ 0x00 ∷ 0x00 ∷ 0x00 ∷ l

-- a file read with tables at the limits: its sections, and no rows of other tables
abbrev pub Sections : List ℕ → ℕ → List Section → Type 0
Sections b v rows =
    module_at b limits
    ≡ accepted (record { version = v; tables = record { sections = rows; imports = []; exports = []; names = no_tables.names } })

abbrev pub unnamed_section : ℕ → ℕ → ℕ → Section
unnamed_section id from size = record { id = id; from = from; size = size; name = part 0 0 }

pub record Smallest : Type 0 where
  pub version : Sections (0x00 ∷ 0x61 ∷ 0x73 ∷ 0x6D ∷ 0x02 ∷ 0x00 ∷ 0x00 ∷ 0x00 ∷ []) 2 []
  pub unused : Sections (file (0x02 ∷ 0x02 ∷ 0x00 ∷ 0x00 ∷ [])) 1 (unnamed_section 2 10 2 ∷ [])
  pub disordered : Sections (file (0x03 ∷ 0x00 ∷ 0x01 ∷ 0x00 ∷ [])) 1 (unnamed_section 3 10 0 ∷ unnamed_section 1 12 0 ∷ [])
  -- an import section with the import of a function by two empty names, and one without imports
  pub repeated : Sections (file (0x02 ∷ 0x05 ∷ 0x01 ∷ 0x00 ∷ 0x00 ∷ 0x00 ∷ 0x00 ∷ 0x02 ∷ 0x01 ∷ 0x00 ∷ [])) 1
      (unnamed_section 2 10 5 ∷ unnamed_section 2 17 1 ∷ [])
  pub id : Sections (file (0x0D ∷ 0x00 ∷ [])) 1 (unnamed_section 13 10 0 ∷ [])
  pub flag : limits_at (0x02 ∷ 0x00 ∷ []) 0 ≡ accepted (got (record { flag = 2; least = 0; most = None }) 2)
  pub kind : export_at (0x00 ∷ 0x04 ∷ 0x00 ∷ []) 0 0 ≡ accepted (got (record { name = part 1 0; kind = 4; index = 0 }) 3)
  pub element : table_at (0x00 ∷ 0x00 ∷ 0x00 ∷ []) 0
      ≡ accepted (got (table_desc 0 (record { flag = 0; least = 0; most = None })) 3)
  pub mutability : global_at (0x7F ∷ 0x02 ∷ []) 0 ≡ accepted (got (global 0x7F 2) 2)
  pub size : Sections (file (0x01 ∷ 0x80 ∷ 0x80 ∷ 0x80 ∷ 0x80 ∷ 0x80 ∷ 0x00 ∷ [])) 1 (unnamed_section 1 15 0 ∷ [])
  -- a custom section named `name` that ends in its first subsection's id: 1 at 6 of the payload, which starts at 10
  pub names : module_at (file (0x00 ∷ 0x06 ∷ 0x04 ∷ 0x6E ∷ 0x61 ∷ 0x6D ∷ 0x65 ∷ 0x00 ∷ [])) limits ≡ refused 1 (offset 16)
