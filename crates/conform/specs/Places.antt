-- docs/RULES.md, "Numbered answers": where in the file a module's refusal points. Assumes nothing.
use Rattle.std.specs.Prelude.{ℕ, ◌+◌, ◌≤◌, ◌<◌, ◌≡◌, Bool, true, List, [], ◌∷◌, length, get_or, eqb}
use Rattle.refusal.specs.Pick.{pick, within}
use Rattle.refusal.specs.Sizes.{file_limit}
use Rattle.refusal.specs.Said.{accepted, refused, Place, offset, spot, kind_at, got}
use Rattle.refusal.specs.declared.Part.{Part}
use Rattle.leb.specs.Reads.{part_bytes, byte_at, taken_at, counted_at}
use Rattle.wasm.specs.Custom.{Names, told_by, subsection_at}
use Rattle.wasm.specs.Module.{Tables, Sizes, contents_at, section_at, module_at}
use Rattle.conform.specs.Claims.{Bytes}
use Rattle.conform.specs.Sound.{limits}
use Rattle.conform.specs.Beyond.{file}

-- a place that is an offset is one of the file, or its end
abbrev pub PlacesInFile : Type 0
PlacesInFile = (b : List ℕ) (z : Sizes) (n p : ℕ) → module_at b z ≡ refused n (offset p) → p ≤ length b

-- the byte at the offset beside 5 is its place, and it is no kind
abbrev pub KindThere : Type 0
KindThere =
    (b : List ℕ) (z : Sizes) (n k o : ℕ) → Bytes b → module_at b z ≡ refused n (kind_at k o)
    → (o < length b) × (get_or b o 0 ≡ k) × (3 < k) × (k < 256)

-- which number comes with which place: 1, 2, 4, 17, 18, 19 with an offset; 13 and 14 with a table and 0; 5 with a byte and its offset
abbrev pub with_offset : ℕ → Bool
with_offset n = pick (within 1 2 n) true (pick (eqb n 4) true (within 17 19 n))

abbrev pub ComesWith : ℕ → Place → Type 0
ComesWith n (offset p) = with_offset n ≡ true
ComesWith n (spot p) = within 13 14 n ≡ true
ComesWith n (kind_at k o) = n ≡ 5

abbrev pub OnlyOffsets : Type 0
OnlyOffsets = (b : List ℕ) (z : Sizes) (n : ℕ) (p : Place) → module_at b z ≡ refused n p → ComesWith n p

-- beside 13 and 14 stands the number of a table, or 0
abbrev pub TablesFew : Type 0
TablesFew = (b : List ℕ) (z : Sizes) (n p : ℕ) → module_at b z ≡ refused n (spot p) → p ≤ 4

-- ---- the place is the reader's own of the payload, or of the subsection, with the start added: no sum leaves 64 bits
abbrev pub start_added : ℕ → Place → Place
start_added by (offset p) = offset (by + p)
start_added by (spot p) = spot p
start_added by (kind_at k o) = kind_at k (by + o)

abbrev pub SectionPlace : Type 0
SectionPlace =
    (b : List ℕ) (z : Sizes) (at id a d n : ℕ) (q : Place) (t : Tables) (p : Part) → length b ≤ file_limit
    → byte_at b at ≡ accepted (got id a) → counted_at b a ≡ accepted (got p d)
    → contents_at id (part_bytes b p) p.from z t ≡ refused n q → section_at b z at t ≡ refused n (start_added p.from q)

abbrev pub SubsectionPlace : Type 0
SubsectionPlace =
    (s : List ℕ) (base cells at id a d n : ℕ) (q : Place) (t : Names) (p : Part) → length s ≤ file_limit
    → byte_at s at ≡ accepted (got id a) → counted_at s a ≡ accepted (got p d)
    → told_by id (part_bytes s p) (base + p.from) cells t ≡ refused n q
    → subsection_at s base cells at t ≡ refused n (start_added p.from q)

-- ---- a smallest input for each way in which a place is moved, or is not
pub record Worked : Type 0 where
  -- the payload's end; the same after a size of two bytes
  pub payload : module_at (file (0x02 ∷ 0x00 ∷ [])) limits ≡ refused 1 (offset 10)
  pub padded : module_at (file (0x02 ∷ 0x80 ∷ 0x00 ∷ [])) limits ≡ refused 1 (offset 11)
  -- the kind byte 4 at 15, and the kind byte 16 at 13
  pub kind : module_at (file (0x02 ∷ 0x06 ∷ 0x01 ∷ 0x01 ∷ 0x6D ∷ 0x01 ∷ 0x66 ∷ 0x04 ∷ [])) limits ≡ refused 5 (kind_at 4 15)
  pub other : module_at (file (0x02 ∷ 0x04 ∷ 0x01 ∷ 0x00 ∷ 0x00 ∷ 0x10 ∷ [])) limits ≡ refused 5 (kind_at 16 13)
  -- a global without its mutability; an export's index that is cut off; a count of eleven bytes
  pub global : module_at (file (0x02 ∷ 0x05 ∷ 0x01 ∷ 0x00 ∷ 0x00 ∷ 0x03 ∷ 0x7F ∷ [])) limits ≡ refused 1 (offset 15)
  pub index : module_at (file (0x07 ∷ 0x05 ∷ 0x01 ∷ 0x01 ∷ 0x65 ∷ 0x00 ∷ 0x80 ∷ [])) limits ≡ refused 1 (offset 15)
  pub number : module_at (file (0x07 ∷ 0x0B ∷ 0x80 ∷ 0x80 ∷ 0x80 ∷ 0x80 ∷ 0x80 ∷ 0x80 ∷ 0x80 ∷ 0x80 ∷ 0x80 ∷ 0x80 ∷ 0x00 ∷ [])) limits
      ≡ refused 17 (offset 10)
  -- not moved: a version of zero; a payload that is not whole; a size that is cut off
  pub version : module_at (0x00 ∷ 0x61 ∷ 0x73 ∷ 0x6D ∷ 0x00 ∷ 0x00 ∷ 0x00 ∷ 0x00 ∷ []) limits ≡ refused 2 (offset 4)
  pub whole : module_at (file (0x01 ∷ 0x02 ∷ 0x00 ∷ [])) limits ≡ refused 1 (offset 10)
  pub cut : module_at (file (0x00 ∷ 0x80 ∷ 0x80 ∷ 0x80 ∷ 0x80 ∷ 0x80 ∷ [])) limits ≡ refused 1 (offset 14)
  -- a name that is no UTF-8, in a subsection: moved twice
  pub twice : module_at (file (0x00 ∷ 0x09 ∷ 0x04 ∷ 0x6E ∷ 0x61 ∷ 0x6D ∷ 0x65 ∷ 0x00 ∷ 0x02 ∷ 0x01 ∷ 0xFF ∷ [])) limits
      ≡ refused 4 (offset 18)
  -- a subsection that is not whole: moved once
  pub once : module_at (file (0x00 ∷ 0x07 ∷ 0x04 ∷ 0x6E ∷ 0x61 ∷ 0x6D ∷ 0x65 ∷ 0x01 ∷ 0x05 ∷ [])) limits ≡ refused 1 (offset 17)
  -- a table's number is no offset
  pub full : module_at (file (0x02 ∷ 0x07 ∷ 0x01 ∷ 0x01 ∷ 0x6D ∷ 0x01 ∷ 0x66 ∷ 0x00 ∷ 0x00 ∷ []))
      (record { sections = limits.sections; imports = 0; exports = limits.exports; names = limits.names }) ≡ refused 13 (spot 2)
  -- a sum past the address range: place and offset are the same number
  pub sum : taken_at (0x00 ∷ 0x00 ∷ 0x00 ∷ []) 3 18446744073709551615 ≡ refused 5 (kind_at 3 3)
