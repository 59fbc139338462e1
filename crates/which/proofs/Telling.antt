-- What is told of a number of 64 bits, by what its bytes come to: each refusal in both directions. Assumes nothing.
use Prim.Native.Nat.{ℕ, ◌+◌, ◌≤◌}
use native.Mathlib.Omega.{arith}
use mathlib.Core.Path.{◌≡◌, sym}
use mathlib.Core.Logic.{◌⊎◌, inl, inr, ◌↔◌}
use mathlib.Core.List.{List}
use lib.ListN.{length, get_or}
use Rattle.refusal.specs.Said.{Said, refused, offset, Place}
use Rattle.refusal.proofs.Following.{never}
use Rattle.leb.specs.Groups.{Out}
use Rattle.leb.specs.Reads.{told_at}
use Rattle.which.specs.Claims.{GoOn}
use Rattle.which.proofs.Sorting.{Comes, long, large, short, before, last}

-- a refusal has one number and one place
pub one_number : {X : Type 0} {m n : ℕ} {p q : Place} → ◌≡◌ {A = Said X} (refused m p) (refused n q) → m ≡ n
one_number e = cc

pub one_place : {X : Type 0} {m n : ℕ} {p q : Place} → ◌≡◌ {A = Said X} (refused m p) (refused n q) → p ≡ q
one_place e = cc

pub one-offset : {X : Type 0} {m n p q : ℕ} → ◌≡◌ {A = Said X} (refused m (offset p)) (refused n (offset q)) → p ≡ q
one-offset e = cc

module _ {X : Type 0} {Fit Misfit : ℕ → Type 0} (apart : (n : ℕ) → Fit n → Misfit n → ⊥) (at p : ℕ) (l : List ℕ) where
  -- 17
  long-out : {o : Out X} → Comes Fit Misfit 9 l o → told_at at o ≡ refused 17 (offset p)
      → (p ≡ at) × (11 ≤ length l) × GoOn 10 l × Fit (get_or l 9 0)
  unfolding told_at
  long-out (long t g q) e = (sym (one-offset e), t, g, q)
  long-out (large t g q) e = absurd (omega (arith, one_number e))
  long-out (short r t g q) e = absurd (omega (arith, one_number e))
  long-out (before b t q) e = absurd (never (sym e))
  long-out (last t s q) e = absurd (never (sym e))

  long-in : {o : Out X} → Comes Fit Misfit 9 l o → (p ≡ at) × (11 ≤ length l) × GoOn 10 l × Fit (get_or l 9 0)
      → told_at at o ≡ refused 17 (offset p)
  unfolding told_at
  long-in (long t g q) h = rw h.0
  long-in (large t g q) h = absurd (apart _ h.3 q)
  long-in (short r t g q) h = absurd (omega (arith, t, h.1))
  long-in (before {i = i} b t q) h = absurd (omega (arith, q, h.2 i (omega (arith, b))))
  long-in (last t s q) h = absurd (omega (arith, s, h.2 9 (omega arith)))

  pub long-told : {o : Out X} → Comes Fit Misfit 9 l o
      → (told_at at o ≡ refused 17 (offset p)) ↔ ((p ≡ at) × (11 ≤ length l) × GoOn 10 l × Fit (get_or l 9 0))
  long-told c = (long-out c, long-in c)

  -- 18
  large-out : {o : Out X} → Comes Fit Misfit 9 l o → told_at at o ≡ refused 18 (offset p)
      → (p ≡ at) × (10 ≤ length l) × GoOn 9 l × Misfit (get_or l 9 0)
  unfolding told_at
  large-out (long t g q) e = absurd (omega (arith, one_number e))
  large-out (large t g q) e = (sym (one-offset e), t, g, q)
  large-out (short r t g q) e = absurd (omega (arith, one_number e))
  large-out (before b t q) e = absurd (never (sym e))
  large-out (last t s q) e = absurd (never (sym e))

  large-in : {o : Out X} → Comes Fit Misfit 9 l o → (p ≡ at) × (10 ≤ length l) × GoOn 9 l × Misfit (get_or l 9 0)
      → told_at at o ≡ refused 18 (offset p)
  unfolding told_at
  large-in (long t g q) h = absurd (apart _ q h.3)
  large-in (large t g q) h = rw h.0
  large-in (short r t g q) h = absurd (apart _ q h.3)
  large-in (before {i = i} b t q) h = absurd (omega (arith, q, h.2 i b))
  large-in (last t s q) h = absurd (apart _ q h.3)

  pub large-told : {o : Out X} → Comes Fit Misfit 9 l o
      → (told_at at o ≡ refused 18 (offset p)) ↔ ((p ≡ at) × (10 ≤ length l) × GoOn 9 l × Misfit (get_or l 9 0))
  large-told c = (large-out c, large-in c)

  -- 1
  short-out : {o : Out X} → Comes Fit Misfit 9 l o → told_at at o ≡ refused 1 (offset p)
      → (p ≡ at + length l) × (length l ≤ 10) × GoOn (length l) l × Fit (get_or l 9 0)
  unfolding told_at
  short-out (long t g q) e = absurd (omega (arith, one_number e))
  short-out (large t g q) e = absurd (omega (arith, one_number e))
  short-out (short r t g q) e = (omega (arith, one-offset e, r), t, g, q)
  short-out (before b t q) e = absurd (never (sym e))
  short-out (last t s q) e = absurd (never (sym e))

  short-in : {o : Out X} → Comes Fit Misfit 9 l o → (p ≡ at + length l) × (length l ≤ 10) × GoOn (length l) l × Fit (get_or l 9 0)
      → told_at at o ≡ refused 1 (offset p)
  unfolding told_at
  short-in (long t g q) h = absurd (omega (arith, t, h.1))
  short-in (large t g q) h = absurd (apart _ h.3 q)
  short-in (short r t g q) h = rw (h.0, r)
  short-in (before {i = i} b t q) h = absurd (omega (arith, q, h.2 i t))
  short-in (last t s q) h = absurd (omega (arith, s, h.2 9 t))

  pub short-told : {o : Out X} → Comes Fit Misfit 9 l o
      → (told_at at o ≡ refused 1 (offset p)) ↔ ((p ≡ at + length l) × (length l ≤ 10) × GoOn (length l) l × Fit (get_or l 9 0))
  short-told c = (short-out c, short-in c)

  -- and no other
  pub told-only : (n : ℕ) (place : Place) {o : Out X} → Comes Fit Misfit 9 l o → told_at at o ≡ refused n place
      → (n ≡ 1) ⊎ ((n ≡ 17) ⊎ ((n ≡ 18) × Misfit (get_or l 9 0)))
  unfolding told_at
  told-only n place (long t g q) e = inr (inl (sym (one_number e)))
  told-only n place (large t g q) e = inr (inr (sym (one_number e), q))
  told-only n place (short r t g q) e = inl (sym (one_number e))
  told-only n place (before b t q) e = absurd (never (sym e))
  told-only n place (last t s q) e = absurd (never (sym e))
