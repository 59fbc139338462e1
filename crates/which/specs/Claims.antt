-- docs/RULES.md, "Numbers and names": which way a number is bad, by its bytes and by the specification's grammar alone. Theorems proves
-- the record; Cases has a case of each claim. Assumes nothing.
use Rattle.std.specs.Prelude.{ℕ, ◌+◌, ◌-◌, ◌^◌, ◌≤◌, ◌<◌, ◌≡◌, ◌⊎◌, ◌↔◌, List, ltb, length, drop, get_or}
use Rattle.refusal.specs.Pick.{pick}
use Rattle.refusal.specs.Said.{refused, offset, Place}
use Rattle.leb.specs.Grammar.{U}
use Rattle.leb.specs.Reads.{uleb_at, u32_at, sleb_at, counted_at, name_at}

-- the first k bytes of l are there and go on: each is at least 80
abbrev pub GoOn : ℕ → List ℕ → Type 0
GoOn k l = (i : ℕ) → i < k → 128 ≤ get_or l i 0

-- a byte's low seven bits
abbrev pub low_seven : ℕ → ℕ
low_seven n = pick (ltb n 128) n (n - 128)

-- ten bytes go on, the low seven bits of the tenth are at most 1, and an eleventh byte is there
pub record Eleventh (l : List ℕ) : Type 0 where
  pub there : 11 ≤ length l
  pub going : GoOn 10 l
  pub fits : low_seven (get_or l 9 0) ≤ 1

-- nine bytes go on, and a tenth is there whose low seven bits exceed 1: whether it goes on, and what follows it, does not matter
pub record Tenth (l : List ℕ) : Type 0 where
  pub there : 10 ≤ length l
  pub going : GoOn 9 l
  pub large : 1 < low_seven (get_or l 9 0)

-- at most ten bytes are there, all go on, and the low seven bits of a tenth are at most 1
pub record Missing (l : List ℕ) : Type 0 where
  pub few : length l ≤ 10
  pub going : GoOn (length l) l
  pub fits : low_seven (get_or l 9 0) ≤ 1

-- a u64 of the specification at `at` that no u32 holds, and p is the offset after it
pub record Above (s : List ℕ) (at p : ℕ) : Type 0 where
  pub value : ℕ
  pub count : ℕ
  pub number : U 64 (drop at s) value count
  pub large : 2 ^ 32 ≤ value
  pub after : p ≡ at + count

-- of a number in s at `at`, which is refused at p; the claims on all refusals are of any place
pub record WhichWay (s : List ℕ) (at p : ℕ) : Type 0 where
  -- Unsigned: 17 is told exactly for an eleventh byte, and 18 exactly for a tenth that is too large, both at the number's first byte; 1
  -- exactly where the bytes end before either, after the last of them. There is no other refusal.
  pub eleventh : (uleb_at s at ≡ refused 17 (offset p)) ↔ ((p ≡ at) × Eleventh (drop at s))
  pub tenth : (uleb_at s at ≡ refused 18 (offset p)) ↔ ((p ≡ at) × Tenth (drop at s))
  pub missing : (uleb_at s at ≡ refused 1 (offset p)) ↔ ((p ≡ at + length (drop at s)) × Missing (drop at s))
  pub u64-refusals : (n : ℕ) (q : Place) → uleb_at s at ≡ refused n q → (n ≡ 1) ⊎ ((n ≡ 17) ⊎ (n ≡ 18))
  -- As a u32: 19 is told exactly for a good number that is above, and every other refusal is that of the unsigned number.
  pub above : (u32_at s at ≡ refused 19 (offset p)) ↔ Above s at p
  pub u32-passes : (n : ℕ) (q : Place) → (n ≡ 19 → ⊥) → (u32_at s at ≡ refused n q) ↔ (uleb_at s at ≡ refused n q)
  -- So 1 and the three are all.
  pub one_of_three : (n : ℕ) (q : Place) → u32_at s at ≡ refused n q → (n ≡ 1) ⊎ ((n ≡ 17) ⊎ ((n ≡ 18) ⊎ (n ≡ 19)))
  -- A length and so many bytes, and a name: 17 and above are those of the length.
  pub counted-passes : (n : ℕ) (q : Place) → 17 ≤ n → (counted_at s at ≡ refused n q) ↔ (u32_at s at ≡ refused n q)
  pub name-passes : (n : ℕ) (q : Place) → 17 ≤ n → (name_at s at ≡ refused n q) ↔ (u32_at s at ≡ refused n q)
  -- Signed: 17 is told exactly for an eleventh byte, whatever the tenth is, and 1 exactly where the bytes end before it; never 18 or 19.
  pub signed-eleventh : (sleb_at s at ≡ refused 17 (offset p)) ↔ ((p ≡ at) × (11 ≤ length (drop at s)) × GoOn 10 (drop at s))
  pub signed-missing : (sleb_at s at ≡ refused 1 (offset p))
      ↔ ((p ≡ at + length (drop at s)) × (length (drop at s) ≤ 10) × GoOn (length (drop at s)) (drop at s))
  pub s64-refusals : (n : ℕ) (q : Place) → sleb_at s at ≡ refused n q → (n ≡ 1) ⊎ (n ≡ 17)

-- no bytes are bad in two ways, and none that are bad are a good number
pub record Excluding (l : List ℕ) : Type 0 where
  pub eleventh-tenth : Eleventh l → Tenth l → ⊥
  pub eleventh-good : (v k : ℕ) → Eleventh l → U 64 l v k → ⊥
  pub tenth-good : (v k : ℕ) → Tenth l → U 64 l v k → ⊥
