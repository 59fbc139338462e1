-- The loop of `sleb128`, on values: the invariant `SReading` over the bits of the i64, how a turn keeps it, and the answer at each way
-- out. Assumes nothing.
use Prim.Native.Nat.{ℕ, suc, ◌+◌, ◌-◌, ◌*◌, ◌%◌, ◌^◌, ◌≤◌, ◌<◌, min}
use native.Mathlib.Nat.{mul_comm, mul-add, mul_assoc, lt_of_le_of_lt, lt_of_lt_of_le, mod-le, mod-eq_of_lt}
use native.Mathlib.Nat.{min-eq_right, sub-add-eq}
use native.Mathlib.Numerals.{add-one}
use native.Mathlib.Omega.{arith}
use mathlib.Core.Path.{◌≡◌, refl, sym, ◌∙◌, ap}
use mathlib.Core.Bool.{Bool, true, false}
use mathlib.Core.List.{List, ◌∷◌}
use borrow.Author.Tests.{lt-ltb, le-ltb, ltb-true, ltb-false}
use lib.Dec.{ltb}
use lib.IntN.{ℤ, pos, negsuc, ◌+ℤ◌, ◌-ℤ◌, ◌*ℤ◌}
use lib.Bits.{bit_and, bit_or}
use lib.Pow.{pow_mono, pow-add}
use lib.ListN.{length, get_or, drop, drop_of_length-le}
use lib.Seq.{drop-cons}
use mir.Syntax.{w64}
use mir.Val.{to_z}
use mir.ValLaws.{to_z_pos}
use Rattle.refusal.specs.Said.{accepted, refused, got, offset}
use Rattle.leb.specs.Groups.{value, grown, spent, s_n, twos}
use Rattle.leb.specs.Reads.{told_at, sleb_at}
use Rattle.bits.proofs.Masks.{or-place, or-ones, place-lt, top-clear, top_set, low_small, low-large, low-lt}
use Rattle.bits.proofs.Integers.{diff-neg, lin, as-diff, to_z-upper, extended}
use Rattle.leb.proofs.Groups.{left, left-none, left_over, grown-none, grown-twice, grown-same, grown-spent}

-- the groups acc, `shift` bits of them, below a number
abbrev pub above_z : ℕ → ℕ → ℤ → ℤ
above_z acc shift z = pos acc +ℤ pos (2 ^ shift) *ℤ z

above_z-group : (acc shift low : ℕ) (z : ℤ) → above_z acc shift (pos low +ℤ pos 128 *ℤ z) ≡ above_z (acc + low * 2 ^ shift) (shift + 7) z
above_z-group acc shift low z =
    let d = as-diff z in
    let x = d.0 in
    let y = d.1 in
    rw (
      d.2,
      lin low 128 x y,
      lin acc (2 ^ shift) (low + 128 * x) (128 * y),
      lin (acc + low * 2 ^ shift) (2 ^ (shift + 7)) x y,
      pow-add 2 shift 7,
      mul-add (2 ^ shift) low (128 * x),
      mul_assoc (2 ^ shift) 128 x,
      mul_assoc (2 ^ shift) 128 y,
      mul_comm low (2 ^ shift),
    )
    (ap (λ (n : ℕ). pos n -ℤ pos (2 ^ shift * (128 * y))) (omega arith))

twos-low : (j n : ℕ) → n % 2 ^ j < 2 ^ (j - 1) → twos j n ≡ pos (n % 2 ^ j)
unfolding twos
twos-low j n h = simp (lt-ltb (n % 2 ^ j) (2 ^ (j - 1)) h)

twos-high : (j n : ℕ) → 2 ^ (j - 1) ≤ n % 2 ^ j → twos j n ≡ pos (n % 2 ^ j) -ℤ pos (2 ^ j)
unfolding twos
twos-high j n h = simp (le-ltb (n % 2 ^ j) (2 ^ (j - 1)) h)

left-last : (shift b : ℕ) (l : List ℕ) → shift < 64 → b < 128 → left s_n shift (b ∷ l) ≡ value (twos (min (64 - shift) 7) b) 1
unfolding left s_n
left-last shift b l h hb = simp (lt-ltb shift 64 h, lt-ltb b 128 hb)

left-more : (shift b : ℕ) (l : List ℕ) → shift < 64 → 128 ≤ b
    → left s_n shift (b ∷ l) ≡ grown (λ m. pos (b - 128) +ℤ pos 128 *ℤ m) 1 (left s_n (shift + 7) l)
unfolding left s_n
left-more shift b l h hb = go (ltb 7 (64 - shift)) refl
  where
    go : (t : Bool) → ltb 7 (64 - shift) ≡ t
        → left s_n shift (b ∷ l) ≡ grown (λ m. pos (b - 128) +ℤ pos 128 *ℤ m) 1 (left s_n (shift + 7) l)
    go true e =
        let f = ltb-true 7 (64 - shift) e in
        simp (lt-ltb shift 64 h, le-ltb b 128 hb, e, lt-ltb (shift + 7) 64 (omega arith), sub-add-eq 64 shift 7)
    go false e =
        let f = ltb-false 7 (64 - shift) e in
        simp (lt-ltb shift 64 h, le-ltb b 128 hb, e, le-ltb (shift + 7) 64 (omega arith))

left-spent : (shift : ℕ) (l : List ℕ) → 64 ≤ shift → left s_n shift l ≡ spent l
unfolding left
left-spent shift l h = simp (le-ltb shift 64 h)

-- the value of a last group of seven bits, by bit 6
minus : (acc shift b : ℕ) → shift + 7 < 64 → b < 128 → 64 ≤ b
    → pos (acc + b * 2 ^ shift) -ℤ pos (2 ^ (shift + 7)) ≡ above_z acc shift (twos (min (64 - shift) 7) b)
minus acc shift b f hb hc =
    let m : min (64 - shift) 7 ≡ 7 = min-eq_right (omega arith) in
    let k : b % 128 ≡ b = mod-eq_of_lt hb in
    rw (m, twos-high 7 b (omega arith), k, lin acc (2 ^ shift) b 128, pow-add 2 shift 7, mul_comm b (2 ^ shift))

plus : (acc shift b : ℕ) → shift + 7 < 64 → b < 64 → pos (acc + b * 2 ^ shift) ≡ above_z acc shift (twos (min (64 - shift) 7) b)
plus acc shift b f hb =
    let m : min (64 - shift) 7 ≡ 7 = min-eq_right (omega arith) in
    let k : b % 128 ≡ b = mod-eq_of_lt (omega arith) in
    rw (m, twos-low 7 b (omega arith), k, mul_comm b (2 ^ shift))

-- and of the tenth group, which has one bit
tenth : (acc b : ℕ) → acc < 2 ^ 63 → to_z w64 (acc + (b % 2) * 2 ^ 63) ≡ above_z acc 63 (twos 1 b)
tenth acc b h = go (ltb (b % 2) 1) refl
  where
    go : (t : Bool) → ltb (b % 2) 1 ≡ t → to_z w64 (acc + (b % 2) * 2 ^ 63) ≡ above_z acc 63 (twos 1 b)
    go true t =
        let k = ltb-true (b % 2) 1 t in
        rw (twos-low 1 b k) (to_z_pos w64 (acc + (b % 2) * 2 ^ 63) (omega arith) ∙ ap pos (omega arith))
    go false t =
        let k = ltb-false (b % 2) 1 t in
        let q : acc + (b % 2) * 2 ^ 63 ≡ acc + 2 ^ 63 * (b % 2) = omega arith in
        rw (twos-high 1 b k, lin acc (2 ^ 63) (b % 2) 2, q)
        (to_z-upper w64 (acc + 2 ^ 63 * (b % 2)) (omega arith) (omega arith))

-- acc has the groups from `begin` to i, which are `shift` bits
pub record SReading (s : List ℕ) (begin i shift acc : ℕ) : Type 0 where
  pub from : begin ≤ i
  pub bits : shift ≡ 7 * (i - begin)
  pub most : shift ≤ 70
  pub under : acc < 2 ^ shift
  pub sofar : s_n 64 (drop begin s) ≡ grown (above_z acc shift) (i - begin) (left s_n shift (drop i s))

zero-below : (z : ℤ) → z ≡ above_z 0 0 z
zero-below (pos n) = ap pos (omega arith)
zero-below (negsuc n) =
    sym (ap (λ (x : ℕ). pos 0 -ℤ pos x) (omega-one n) ∙ diff-neg 0 (suc n) (omega arith) ∙ ap negsuc (omega arith))
  where
    omega-one : (n : ℕ) → 1 * suc n ≡ suc n
    omega-one n = omega arith

pub begins : (s : List ℕ) (begin : ℕ) → SReading s begin begin 0 0
unfolding left
begins s begin = record {
  from = omega arith;
  bits = omega arith;
  most = omega arith;
  under = omega arith;
  sofar =
      grown-none (above_z 0 0) (s_n 64 (drop begin s)) zero-below
      ∙ ap (λ (k : ℕ). grown (above_z 0 0) k (s_n 64 (drop begin s))) (omega arith);
}

module _ (s : List ℕ) (begin i shift acc : ℕ) (r : SReading s begin i shift acc) where
  -- the bytes end
  pub at-end : length s ≤ i → refused 1 (offset i) ≡ sleb_at s begin
  unfolding sleb_at told_at grown s_n
  at-end h =
      let e : begin + (i - begin + 0) ≡ i = omega (arith, r.from) in
      rw (r.sofar, drop_of_length-le s h, left-none s_n (λ N. refl) shift, e)

  -- no bits are left, and there is a byte more
  pub too_long : 64 ≤ shift → i < length s → refused 17 (offset begin) ≡ sleb_at s begin
  unfolding sleb_at told_at grown
  too_long h l = rw (r.sofar, drop-cons s i 0 l, left_over s_n shift (get_or s i 0) (drop (suc i) s) h)

  module _ (h : shift < 64) (l : i < length s) (byte : get_or s i 0 < 256) where
    -- what the machine has after the group
    abbrev pub group : ℕ
    group = bit_or acc ((bit_and (get_or s i 0) 127 * 2 ^ shift) % 2 ^ 64)

    joined : group ≡ acc + (bit_and (get_or s i 0) 127 % 2 ^ (64 - shift)) * 2 ^ shift
    joined = or-place 64 shift (64 - shift) acc (bit_and (get_or s i 0) 127) (omega arith) r.under

    pub more : (bit_and (get_or s i 0) 128 ≡ 0 → ⊥)
        → SReading s begin (i + 1) (shift + 7) group
    more z = record {
      from = omega (arith, r.from);
      bits = omega (arith, r.from, r.bits);
      most = omega (arith, r.bits);
      under = rw joined (place-lt shift 7 acc (bit_and (get_or s i 0) 127 % 2 ^ (64 - shift)) r.under
          (lt_of_le_of_lt (mod-le (bit_and (get_or s i 0) 127) (2 ^ (64 - shift))) (low-lt (get_or s i 0))));
      sofar =
          let hb = top_set 7 (get_or s i 0) byte z in
          rw (joined, r.sofar, drop-cons s i 0 l, left-more shift (get_or s i 0) (drop (suc i) s) h hb, grown-twice, add-one i)
          (go (ltb (shift + 7) 64) refl);
    }
      where
        go : (t : Bool) → ltb (shift + 7) 64 ≡ t
            → grown (λ m. above_z acc shift (pos (get_or s i 0 - 128) +ℤ pos 128 *ℤ m)) (i - begin + 1) (left s_n (shift + 7) (drop (suc i) s))
            ≡ grown (above_z (acc + (bit_and (get_or s i 0) 127 % 2 ^ (64 - shift)) * 2 ^ shift) (shift + 7)) (suc i - begin)
            (left s_n (shift + 7) (drop (suc i) s))
        go true t =
            let f = ltb-true (shift + 7) 64 t in
            let hb = top_set 7 (get_or s i 0) byte z in
            let e : bit_and (get_or s i 0) 127 % 2 ^ (64 - shift) ≡ get_or s i 0 - 128 =
            mod-eq_of_lt (lt_of_lt_of_le (low-lt (get_or s i 0)) (pow_mono {i = 7} (omega arith))) ∙ low-large (get_or s i 0) byte hb in
            rw e (grown-same _ _ _ (above_z-group acc shift (get_or s i 0 - 128)) (omega (arith, r.from)))
        go false t =
            let f = ltb-false (shift + 7) 64 t in
            rw (left-spent (shift + 7) (drop (suc i) s) f) (grown-spent _ _ _ (omega (arith, r.from)))

    module _ (z : bit_and (get_or s i 0) 128 ≡ 0) where
      -- the answer for a last group whose value is v
      answer : (v : ℤ) → v ≡ above_z acc shift (twos (min (64 - shift) 7) (get_or s i 0)) → accepted (got v (i + 1)) ≡ sleb_at s begin
      unfolding sleb_at told_at grown
      answer v e =
          let hb = top-clear 7 (get_or s i 0) byte z in
          let p : begin + (i - begin + 1) ≡ i + 1 = omega (arith, r.from) in
          rw (e, r.sofar, drop-cons s i 0 l, left-last shift (get_or s i 0) (drop (suc i) s) h hb, p)

      -- a group of seven bits
      seven : shift + 7 < 64 → group ≡ acc + get_or s i 0 * 2 ^ shift
      seven f =
          joined
          ∙ ap (λ (x : ℕ). acc + x * 2 ^ shift)
          (mod-eq_of_lt (lt_of_lt_of_le (low-lt (get_or s i 0)) (pow_mono {i = 7} (omega arith)))
          ∙ low_small (get_or s i 0) (top-clear 7 (get_or s i 0) byte z))

      -- the sign is extended from bit 6
      pub last-minus : shift + 7 < 64 → (bit_and (get_or s i 0) 64 ≡ 0 → ⊥)
          → accepted (got (to_z w64 (bit_or group (((2 ^ 64 - 1) * 2 ^ (shift + 7)) % 2 ^ 64))) (i + 1)) ≡ sleb_at s begin
      last-minus f n =
          let hb = top-clear 7 (get_or s i 0) byte z in
          let a = place-lt shift 7 acc (get_or s i 0) r.under hb in
          answer _
          (rw (
            seven f,
            or-ones 64 (shift + 7) (64 - (shift + 7)) (acc + get_or s i 0 * 2 ^ shift) (omega arith) a,
            extended w64 (shift + 7) (acc + get_or s i 0 * 2 ^ shift) a (omega arith),
          )
          (minus acc shift (get_or s i 0) f hb (top_set 6 (get_or s i 0) hb n)))

      pub last-plus : shift + 7 < 64 → bit_and (get_or s i 0) 64 ≡ 0
          → accepted (got (to_z w64 group) (i + 1)) ≡ sleb_at s begin
      last-plus f n =
          let hb = top-clear 7 (get_or s i 0) byte z in
          let hc = top-clear 6 (get_or s i 0) hb n in
          let a : acc + get_or s i 0 * 2 ^ shift < 2 ^ 63 = lt_of_lt_of_le (place-lt shift 6 acc (get_or s i 0) r.under hc)
          (pow_mono {j = 63} (omega arith)) in
          answer _ (rw (seven f, to_z_pos w64 (acc + get_or s i 0 * 2 ^ shift) a) (plus acc shift (get_or s i 0) f hc))

      -- the tenth group has one bit
      pub last-tenth : 64 ≤ shift + 7 → accepted (got (to_z w64 group) (i + 1)) ≡ sleb_at s begin
      last-tenth f =
          let e : shift ≡ 63 = omega (arith, r.bits) in
          let u : acc < 2 ^ 63 = rw e at r.under in
          answer _ (rw (joined, low_small (get_or s i 0) (top-clear 7 (get_or s i 0) byte z), e) (tenth acc (get_or s i 0) u))
