-- The UTF-8 bytes of a code point: Table 3-6 of the Unicode Standard, "UTF-8 Bit Distribution". Assumes nothing.
use Rattle.std.specs.Prelude.{◌⊎◌, Bool, true, false, List, [], ◌∷◌, ◌++◌, ℕ, ◌+◌, ◌/◌, ◌%◌, ◌≤◌, ◌<◌, ltb}
use Rattle.refusal.specs.Pick.{pick}

-- a Unicode scalar value: no surrogate, none above 10FFFF
abbrev pub Scalar : ℕ → Type 0
Scalar c = (c < 0xD800) ⊎ ((0xE000 ≤ c) × (c < 0x110000))

-- a list of them
pub data Scalars : List ℕ → Type 0 where
  empty : Scalars []
  point : {c : ℕ} {cs : List ℕ} → Scalar c → Scalars cs → Scalars (c ∷ cs)

-- the bytes of a code point
unfoldable pub encode : ℕ → List ℕ
encode c =
    pick (ltb c 0x80) (c ∷ [])
    (pick (ltb c 0x800) ((0xC0 + c / 64) ∷ (0x80 + c % 64) ∷ [])
    (pick (ltb c 0x10000) ((0xE0 + c / 4096) ∷ (0x80 + c / 64 % 64) ∷ (0x80 + c % 64) ∷ [])
    ((0xF0 + c / 262144) ∷ (0x80 + c / 4096 % 64) ∷ (0x80 + c / 64 % 64) ∷ (0x80 + c % 64) ∷ [])))

-- a text, from its code points
unfoldable pub encode_all : List ℕ → List ℕ
encode_all [] = []
encode_all (c ∷ cs) = encode c ++ encode_all cs

-- ---- code points at the ends of a text
-- c before cs, unless it is to go and nothing stands after it
unfoldable pub unless_last : Bool → ℕ → List ℕ → List ℕ
unless_last true c [] = []
unless_last true c (d ∷ ds) = c ∷ d ∷ ds
unless_last false c [] = c ∷ []
unless_last false c (d ∷ ds) = c ∷ d ∷ ds

-- without the code points at the end that pass the test
unfoldable pub drop_end : (ℕ → Bool) → List ℕ → List ℕ
drop_end p [] = []
drop_end p (c ∷ cs) = unless_last (p c) c (drop_end p cs)

-- those at the front that pass the test
unfoldable pub take_while : (ℕ → Bool) → List ℕ → List ℕ
take_while p [] = []
take_while p (c ∷ cs) = pick (p c) (c ∷ take_while p cs) []

-- without them
unfoldable pub drop_start : (ℕ → Bool) → List ℕ → List ℕ
drop_start p [] = []
drop_start p (c ∷ cs) = pick (p c) (drop_start p cs) (c ∷ cs)
