-- The loop of `uleb128`, on values: the invariant `Reading`, how a turn keeps it, and the answer at each way out. Assumes nothing.
use Prim.Native.Nat.{ℕ, suc, ◌+◌, ◌-◌, ◌*◌, ◌%◌, ◌^◌, ◌≤◌, ◌<◌}
use native.Mathlib.Nat.{lt_of_lt_of_le}
use native.Mathlib.Numerals.{add-one}
use native.Mathlib.Omega.{arith}
use mathlib.Core.Path.{◌≡◌, refl, ◌∙◌, ap}
use mathlib.Core.Logic.{◌⊎◌, inl, inr}
use mathlib.Core.Bool.{Bool, true, false}
use mathlib.Core.List.{List, ◌∷◌}
use borrow.Author.Tests.{ltb-true, ltb-false}
use lib.Dec.{ltb}
use lib.Bits.{bit_and, bit_or}
use lib.Pow.{pow_mono}
use lib.ListN.{length, get_or, drop, drop_of_length-le}
use lib.Seq.{drop-cons}
use Rattle.refusal.specs.Said.{accepted, refused, got, offset}
use Rattle.leb.specs.Groups.{oversize, grown, u_n}
use Rattle.leb.specs.Reads.{told_at, uleb_at}
use Rattle.bits.proofs.Masks.{or-fits, place-lt, top-clear, top_set, low_small, low-large, low-lt}
use Rattle.leb.proofs.Groups.{above, above-group, left, grown-none, grown-twice, grown-same, left-none, left_over, left-last}
use Rattle.leb.proofs.Groups.{left-big, left-big', left-more}

big : (b : ℕ) (l : List ℕ) → b < 256 → 1 < bit_and b 127 → left u_n 63 (b ∷ l) ≡ oversize
big b l h g = go (ltb b 128) refl
  where
    go : (t : Bool) → ltb b 128 ≡ t → left u_n 63 (b ∷ l) ≡ oversize
    go true e =
        let hb = ltb-true b 128 e in
        left-big b l (omega (arith, low_small b hb)) hb
    go false e =
        let hb = ltb-false b 128 e in
        left-big' b l hb (omega (arith, low-large b h hb))

-- acc has the groups from `begin` to i, which are `shift` bits
pub record Reading (s : List ℕ) (begin i shift acc : ℕ) : Type 0 where
  pub from : begin ≤ i
  pub bits : shift ≡ 7 * (i - begin)
  pub most : shift ≤ 70
  pub under : acc < 2 ^ shift
  pub sofar : u_n 64 (drop begin s) ≡ grown (above acc shift) (i - begin) (left u_n shift (drop i s))

pub begins : (s : List ℕ) (begin : ℕ) → Reading s begin begin 0 0
unfolding left
begins s begin = record {
  from = omega arith;
  bits = omega arith;
  most = omega arith;
  under = omega arith;
  sofar =
      grown-none (above 0 0) (u_n 64 (drop begin s)) (λ v. omega arith)
      ∙ ap (λ (k : ℕ). grown (above 0 0) k (u_n 64 (drop begin s))) (omega arith);
}

module _ (s : List ℕ) (begin i shift acc : ℕ) (r : Reading s begin i shift acc) where
  -- the bytes end
  pub at-end : length s ≤ i → refused 1 (offset i) ≡ uleb_at s begin
  unfolding uleb_at told_at grown u_n
  at-end h =
      let e : begin + (i - begin + 0) ≡ i = omega (arith, r.from) in
      rw (r.sofar, drop_of_length-le s h, left-none u_n (λ N. refl) shift, e)

  -- no bits are left, and there is a byte more
  pub too_long : 64 ≤ shift → i < length s → refused 17 (offset begin) ≡ uleb_at s begin
  unfolding uleb_at told_at grown
  too_long h l = rw (r.sofar, drop-cons s i 0 l, left_over u_n shift (get_or s i 0) (drop (suc i) s) h)

  module _ (h : shift < 64) (l : i < length s) (byte : get_or s i 0 < 256) where
    -- the tenth group is too big
    pub too-big : shift ≡ 63 → 1 < bit_and (get_or s i 0) 127 → refused 18 (offset begin) ≡ uleb_at s begin
    unfolding uleb_at told_at grown
    too-big e g =
        rw (r.sofar, drop-cons s i 0 l, e, big (get_or s i 0) (drop (suc i) s) byte g)

    -- the group fits what is left
    fits-tenth : shift ≡ 63 → bit_and (get_or s i 0) 127 ≤ 1 → bit_and (get_or s i 0) 127 < 2 ^ (64 - shift)
    fits-tenth e g = rw e (omega arith)

    fits-before : (shift ≡ 63 → ⊥) → bit_and (get_or s i 0) 127 < 2 ^ (64 - shift)
    fits-before n = lt_of_lt_of_le (low-lt (get_or s i 0)) (pow_mono {i = 7} (omega (arith, r.bits)))

    -- by whichever way control came
    pub fits : ((shift ≡ 63) × (bit_and (get_or s i 0) 127 ≤ 1)) ⊎ (shift ≡ 63 → ⊥) → bit_and (get_or s i 0) 127 < 2 ^ (64 - shift)
    fits (inl w) = fits-tenth w.0 w.1
    fits (inr w) = fits-before w

    module _ (room : bit_and (get_or s i 0) 127 < 2 ^ (64 - shift)) where
      placed : bit_or acc ((bit_and (get_or s i 0) 127 * 2 ^ shift) % 2 ^ 64) ≡ acc + bit_and (get_or s i 0) 127 * 2 ^ shift
      placed = or-fits 64 shift (64 - shift) acc (bit_and (get_or s i 0) 127) (omega arith) r.under room

      pub last : bit_and (get_or s i 0) 128 ≡ 0
          → accepted (got (bit_or acc ((bit_and (get_or s i 0) 127 * 2 ^ shift) % 2 ^ 64)) (i + 1)) ≡ uleb_at s begin
      unfolding uleb_at told_at grown
      last z =
          let hb = top-clear 7 (get_or s i 0) byte z in
          let hf : get_or s i 0 < 2 ^ (64 - shift) = rw (low_small (get_or s i 0) hb) at room in
          let e : begin + (i - begin + 1) ≡ i + 1 = omega (arith, r.from) in
          rw (placed, low_small (get_or s i 0) hb, r.sofar, drop-cons s i 0 l, left-last shift (get_or s i 0) (drop (suc i) s) h hb hf, e)

      pub more : (bit_and (get_or s i 0) 128 ≡ 0 → ⊥)
          → Reading s begin (i + 1) (shift + 7) (bit_or acc ((bit_and (get_or s i 0) 127 * 2 ^ shift) % 2 ^ 64))
      more z = record {
        from = omega (arith, r.from);
        bits = omega (arith, r.from, r.bits);
        most = omega (arith, r.bits);
        under = rw placed (place-lt shift 7 acc (bit_and (get_or s i 0) 127) r.under (low-lt (get_or s i 0)));
        sofar =
            let hb = top_set 7 (get_or s i 0) byte z in
            let lo = low-large (get_or s i 0) byte hb in
            let hf : get_or s i 0 - 128 < 2 ^ (64 - shift) = rw lo at room in
            rw (placed, lo, r.sofar, drop-cons s i 0 l, left-more shift (get_or s i 0) (drop (suc i) s) h hb hf, grown-twice, add-one i)
            (grown-same _ _ _ (above-group acc shift (get_or s i 0)) (omega (arith, r.from)));
      }
