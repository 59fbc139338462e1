-- Sets of domains as bits. Assumes nothing.
use mathlib.Core.Path.{◌≡◌, refl, sym, ap, ◌∙◌}
use mathlib.Core.Bool.{Bool, true, false}
use mathlib.Core.List.{List, [], ◌∷◌, ◌++◌}
use Prim.Native.Nat.{ℕ, zero, suc, ◌+◌, ◌*◌, ◌%◌, ◌^◌, ◌≤◌, ◌<◌}
use native.Mathlib.Omega.{arith}
use native.Mathlib.Numerals.{add-one}
use native.Mathlib.Nat.{add_comm, add-zero, mul_assoc, pow-suc}
use lib.Bits.{bit_or}
use lib.Count.{ones, ones_in, ones_cat}
use lib.ListN.{length, get_or, length-append}
use lib.Pow.{pow-lt}
use Rattle.bits.proofs.Masks.{or-fits}
use Rattle.refusal.specs.Pick.{one_if}
use Rattle.verdicts.specs.Evaluate.{bits, members, firsts}

-- one more flag at the end
bits-snoc : (k : ℕ) (bs : List Bool) (b : Bool) → bits k (bs ++ b ∷ []) ≡ bits k bs + one_if b * 2 ^ (k + length bs)
unfolding bits
bits-snoc k [] b = rw (add-zero k) (omega arith)
bits-snoc k (c ∷ bs) b =
    let z : suc k + length bs ≡ k + suc (length bs) = omega arith in
    rw (bits-snoc (suc k) bs b, z) (omega arith)

members-snoc : (bs : List Bool) (b : Bool) → members (bs ++ b ∷ []) ≡ members bs + one_if b
unfolding members
members-snoc [] b = omega arith
members-snoc (c ∷ bs) b = rw (members-snoc bs b) (omega arith)

pub with-bit : (w j acc d : ℕ) → j + d ≡ w → 0 < j → acc < 2 ^ d → bit_or acc ((1 * 2 ^ d) % 2 ^ w) ≡ acc + 1 * 2 ^ d
with-bit w j acc d e h k = or-fits w d j acc 1 e k (one-lt j h)
  where
    one-lt : (j : ℕ) → 0 < j → 1 < 2 ^ j
    one-lt j h = pow-lt {i = 0} h

-- ---- the loop's state at d: the set of the first d flags, below 2 ^ d, with as many ones as members
pub record Set (flags : List Bool) (d set : ℕ) : Type 0 where
  pub is : set ≡ bits 0 (firsts d flags)
  pub low : set < 2 ^ d
  pub many : ones set ≡ members (firsts d flags)

firsts-next : (d : ℕ) (fs : List Bool) → firsts (suc d) fs ≡ firsts d fs ++ get_or fs d false ∷ []
unfolding firsts
firsts-next d fs = refl

firsts-long : (d : ℕ) (fs : List Bool) → length (firsts d fs) ≡ d
unfolding firsts
firsts-long zero fs = refl
firsts-long (suc d) fs = length-append (firsts d fs) (get_or fs d false ∷ []) ∙ (let z = firsts-long d fs in omega arith)

pub set-none : (flags : List Bool) → Set flags 0 0
unfolding bits members firsts
set-none flags = record { is = refl; low = omega arith; many = unfold ones ones_in in refl }

one-ones : (b : Bool) → ones (one_if b) ≡ one_if b
unfolding ones ones_in
one-ones true = refl
one-ones false = refl

one-le : (b : Bool) → one_if b ≤ 1
one-le true = omega arith
one-le false = omega arith

room : (s d : ℕ) (b : Bool) → s < 2 ^ d → s + one_if b * 2 ^ d < 2 ^ (d + 1)
room s d true h = let z : 2 ^ (d + 1) ≡ 2 ^ d * 2 = ap (λ (k : ℕ). 2 ^ k) (add-one d) ∙ pow-suc 2 d in rw z (omega arith)
room s d false h = let z : 2 ^ (d + 1) ≡ 2 ^ d * 2 = ap (λ (k : ℕ). 2 ^ k) (add-one d) ∙ pow-suc 2 d in rw z (omega arith)

pub set_next : (flags : List Bool) (d s t : ℕ) (b : Bool) → b ≡ get_or flags d false → Set flags d s → t ≡ s + one_if b * 2 ^ d
    → Set flags (d + 1) t
set_next flags d s t b e f q =
    let k : firsts (d + 1) flags ≡ firsts d flags ++ b ∷ [] = ap (λ (n : ℕ). firsts n flags) (add-one d) ∙ firsts-next d flags
    ∙ ap (λ (x : Bool). firsts d flags ++ x ∷ []) (sym e) in
    let l : length (firsts d flags) ≡ d = firsts-long d flags in
    let z : 0 + length (firsts d flags) ≡ d = omega arith in
    let m : bits 0 (firsts (d + 1) flags) ≡ bits 0 (firsts d flags) + one_if b * 2 ^ d = ap (bits 0) k ∙ bits-snoc 0 (firsts d flags) b
    ∙ ap (λ (n : ℕ). bits 0 (firsts d flags) + one_if b * 2 ^ n) z in
    let c : ones t ≡ ones (one_if b) + ones s = ap ones (q ∙ add_comm s (one_if b * 2 ^ d)) ∙ ones_cat d (one_if b) s f.low in
    record {
      is = q ∙ ap (λ (n : ℕ). n + one_if b * 2 ^ d) f.is ∙ sym m;
      low = rw q (room s d b f.low);
      many = c ∙ (let x = one-ones b in let y = f.many in let w = ap members k ∙ members-snoc (firsts d flags) b in omega arith);
    }

-- the ones of a set are its members
bits_up : (k : ℕ) (bs : List Bool) → bits (suc k) bs ≡ bits k bs * 2
unfolding bits
bits_up k [] = refl
bits_up k (b ∷ bs) =
    let z : one_if b * (2 ^ k * 2) ≡ one_if b * 2 ^ k * 2 = sym (mul_assoc (one_if b) (2 ^ k) 2) in
    rw (bits_up (suc k) bs, pow-suc 2 k) (omega arith)

pub ones-bits : (bs : List Bool) → ones (bits 0 bs) ≡ members bs
unfolding bits members
ones-bits [] = unfold ones ones_in in refl
ones-bits (b ∷ bs) =
    let e : one_if b * 2 ^ 0 + bits 1 bs ≡ bits 0 bs * 2 ^ 1 + one_if b = omega (arith, bits_up 0 bs) in
    ap ones e ∙ ones_cat 1 (bits 0 bs) (one_if b) (omega (arith, one-le b)) ∙ omega (arith, one-ones b, ones-bits bs)

pub firsts-most : (n : ℕ) (fs : List Bool) → members (firsts n fs) ≤ n
unfolding members firsts
firsts-most zero fs = omega arith
firsts-most (suc n) fs = omega (arith, firsts-most n fs, members-snoc (firsts n fs) (get_or fs n false), one-le (get_or fs n false))
