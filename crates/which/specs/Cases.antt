-- A case of each claim, computed: bytes, where the cursor stands, and what is told. Assumes nothing.
use Rattle.std.specs.Prelude.{ℕ, ◌≡◌, refl, List, [], ◌∷◌, ℤ, negsuc}
use Rattle.refusal.specs.Each.{Each, each_nil, each-cons}
use Rattle.refusal.specs.Said.{Said, accepted, refused, Got, got, onward, offset}
use Rattle.refusal.specs.declared.Part.{Part}
use Rattle.leb.specs.Groups.{u_n, s_n, twos, grown, spent}
use Rattle.leb.specs.Reads.{told_at, narrowed, uleb_at, u32_at, sleb_at, taken_at, counted_at, checked, name_at}

-- a u64, a u32, an s64 and a name, each with the offset at which it is read and what is told
pub data NumberCase : Type 0 where
  u64 : List ℕ → ℕ → Said (Got ℕ) → NumberCase
  u32 : List ℕ → ℕ → Said (Got ℕ) → NumberCase
  s64 : List ℕ → ℕ → Said (Got ℤ) → NumberCase
  name : List ℕ → ℕ → Said (Got Part) → NumberCase

abbrev pub NumberHolds : NumberCase → Type 0
NumberHolds (u64 s at r) = uleb_at s at ≡ r
NumberHolds (u32 s at r) = u32_at s at ≡ r
NumberHolds (s64 s at r) = sleb_at s at ≡ r
NumberHolds (name s at r) = name_at s at ≡ r

-- nine times b, then l
abbrev pub nine_times : ℕ → List ℕ → List ℕ
nine_times b l = b ∷ b ∷ b ∷ b ∷ b ∷ b ∷ b ∷ b ∷ b ∷ l

abbrev pub number_cases : List NumberCase
number_cases =
    -- an eleventh byte; after a tenth whose low bits are 1
    u64 (nine_times 0x80 (0x80 ∷ 0x00 ∷ [])) 0 (refused 17 (offset 0))
    ∷ u64 (nine_times 0x80 (0x81 ∷ 0x00 ∷ [])) 0 (refused 17 (offset 0))
    -- a tenth that is too large: the last one; one that goes on and that nothing follows; with an eleventh, which is not looked at
    ∷ u64 (nine_times 0xff (0x02 ∷ [])) 0 (refused 18 (offset 0))
    ∷ u64 (nine_times 0x80 (0x82 ∷ [])) 0 (refused 18 (offset 0))
    ∷ u64 (nine_times 0x80 (0x82 ∷ 0x00 ∷ [])) 0 (refused 18 (offset 0))
    -- the eleventh is missing
    ∷ u64 (nine_times 0x80 (0x80 ∷ [])) 0 (refused 1 (offset 10))
    -- above: in five bytes, at an offset, and in ten
    ∷ u32 (0x80 ∷ 0x80 ∷ 0x80 ∷ 0x80 ∷ 0x10 ∷ []) 0 (refused 19 (offset 5))
    ∷ u32 (0x00 ∷ 0x00 ∷ 0xff ∷ 0xff ∷ 0xff ∷ 0xff ∷ 0x1f ∷ []) 2 (refused 19 (offset 7))
    ∷ u32 (nine_times 0x80 (0x01 ∷ [])) 0 (refused 19 (offset 10))
    -- not above: in ten bytes; a tenth that is too large is no good number; and the largest u32
    ∷ u32 (nine_times 0x80 (0x00 ∷ [])) 0 (accepted (got 0 10))
    ∷ u32 (0x00 ∷ nine_times 0xff (0x02 ∷ 0x00 ∷ [])) 1 (refused 18 (offset 1))
    ∷ u32 (0xff ∷ 0xff ∷ 0xff ∷ 0xff ∷ 0x0f ∷ []) 0 (accepted (got 4294967295 5))
    -- a name's length
    ∷ name (0x00 ∷ nine_times 0x80 (0x80 ∷ 0x00 ∷ [])) 1 (refused 17 (offset 1))
    -- signed: an eleventh byte after any tenth; of a tenth only bit 0 counts; the eleventh is missing
    ∷ s64 (nine_times 0x80 (0x80 ∷ 0x00 ∷ [])) 0 (refused 17 (offset 0))
    ∷ s64 (nine_times 0x80 (0xff ∷ 0x00 ∷ [])) 0 (refused 17 (offset 0))
    ∷ s64 (nine_times 0x80 (0x7f ∷ [])) 0 (accepted (got (negsuc 9223372036854775807) 10))
    ∷ s64 (nine_times 0xff (0xff ∷ [])) 0 (refused 1 (offset 10))
    ∷ []

pub ways-hold : Each NumberHolds number_cases
unfolding uleb_at u32_at sleb_at told_at narrowed onward u_n s_n twos grown spent taken_at counted_at checked name_at
ways-hold =
    (each-cons refl (each-cons refl (each-cons refl (each-cons refl (each-cons refl
    (each-cons refl (each-cons refl (each-cons refl (each-cons refl (each-cons refl
    (each-cons refl (each-cons refl (each-cons refl (each-cons refl (each-cons refl
    (each-cons refl (each-cons refl each_nil)))))))))))))))))
