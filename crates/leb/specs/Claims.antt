-- What is read, against the specification's grammar (Grammar) and exactly beyond it: docs/DIFFERENCES.md, the D's of "Numbers and names".
-- Theorems proves the record. Assumes nothing.
use Rattle.std.specs.Prelude.{◌≡◌, List, ℕ, ◌+◌, ◌^◌, ◌≤◌, ◌<◌, ℤ, length, get_or, drop}
use Rattle.refusal.specs.Said.{accepted, got}
use Rattle.refusal.specs.declared.Part.{Part}
use Rattle.text.specs.Utf8.{up_to}
use Rattle.leb.specs.Grammar.{U, S, Name}
use Rattle.leb.specs.Reads.{part, part_bytes, uleb_at, u32_at, sleb_at, name_at}
use Rattle.leb.specs.Beyond.{mended}

-- what is read as a name: a length of at most ten bytes that is a u64 below 2^32, then so many bytes of well-formed UTF-8
pub record NameOnly (s : List ℕ) (at : ℕ) (p : Part) (d : ℕ) : Type 0 where
  pub count : ℕ
  pub counted : U 64 (drop at s) p.len count
  pub small : p.len < 2 ^ 32
  pub start : p.from ≡ at + count
  pub next : d ≡ p.from + p.len
  pub whole : d ≤ length s
  pub utf8 : up_to (part_bytes s p) ≡ length (part_bytes s p)

pub record AgainstSpecification : Type 0 where
  -- A u64 of the specification is read as its value, and nothing else is read.
  pub u64-read : (s : List ℕ) (at v k : ℕ) → U 64 (drop at s) v k → uleb_at s at ≡ accepted (got v (at + k))
  pub u64-only : (s : List ℕ) (at v d : ℕ) → uleb_at s at ≡ accepted (got v d) → (k : ℕ) × U 64 (drop at s) v k × (d ≡ at + k)
  -- A u32 of the specification is read as its value.
  pub u32-read : (s : List ℕ) (at v k : ℕ) → ((i : ℕ) → get_or (drop at s) i 0 < 256) → U 32 (drop at s) v k
      → u32_at s at ≡ accepted (got v (at + k))
  -- D: a u32 may take ten bytes. What is read as a u32 is exactly a u64 of the specification below 2^32.
  pub u32-long : (s : List ℕ) (at v k : ℕ) → U 64 (drop at s) v k → v < 2 ^ 32 → u32_at s at ≡ accepted (got v (at + k))
  pub u32-only : (s : List ℕ) (at v d : ℕ) → u32_at s at ≡ accepted (got v d) → (k : ℕ) × U 64 (drop at s) v k × (v < 2 ^ 32) × (d ≡ at + k)
  -- A signed number of the specification is read as its value.
  pub s64-read : (s : List ℕ) (at k : ℕ) (z : ℤ) → S 64 (drop at s) z k → sleb_at s at ≡ accepted (got z (at + k))
  -- D: of a tenth byte only bit 0 counts. What is read is exactly what the specification reads once that byte's other bits are copies
  -- of it.
  pub s64-mended : (s : List ℕ) (at k : ℕ) (z : ℤ) → S 64 (mended 64 (drop at s)) z k → sleb_at s at ≡ accepted (got z (at + k))
  pub s64-only : (s : List ℕ) (at d : ℕ) (z : ℤ) → sleb_at s at ≡ accepted (got z d)
      → (k : ℕ) × S 64 (mended 64 (drop at s)) z k × (d ≡ at + k)
  -- A name of the specification is read as its bytes; what is read as a name is one but for the length of its count.
  pub name-read : (s : List ℕ) (at k : ℕ) (b : List ℕ) → ((i : ℕ) → get_or (drop at s) i 0 < 256) → length s < 2 ^ 64
      → (n : Name (drop at s) b k)
      → (name_at s at ≡ accepted (got (part (at + n.count) (length b)) (at + k))) × (part_bytes s (part (at + n.count) (length b)) ≡ b)
  pub name-only : (s : List ℕ) (at : ℕ) (p : Part) (d : ℕ) → name_at s at ≡ accepted (got p d) → NameOnly s at p d
