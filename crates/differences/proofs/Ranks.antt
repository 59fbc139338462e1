-- The rank of a kind goes by the bytes of its slug. Assumes nothing.
use mathlib.Core.Path.{◌≡◌, refl, sym, ◌∙◌, ap}
use mathlib.Core.Bool.{Bool, true, false}
use Prim.Native.Nat.{ℕ, zero, suc, ◌+◌, ◌-◌, ◌/◌, ◌%◌, ◌≤◌, ◌<◌}
use native.Mathlib.Omega.{arith}
use borrow.Author.Tests.{ltb-true, ltb-false, ne_eqb}
use lib.Dec.{ltb, eqb}
use Rattle.refusal.specs.Pick.{pick}
use Rattle.text.specs.Order.{cmp_nat, and_then, cmp_bytes}
use Rattle.std.specs.declared.cmp.Ordering.TheVariants.{Equal}
use Rattle.text.proofs.OrderLaws.{Tri, below, at, above, tri}
use Rattle.sorting.proofs.Orders.{nat-less, nat-greater, nat-same}
use Rattle.kinds.specs.Kinds.{kind_of, kind_word, hex_of}
use Rattle.kinds.specs.declared.ExternalKind.TheVariants.{Other}
use Rattle.differences.specs.Rank.{rank_of}
use Rattle.differences.specs.Differences.{kind_slug}

-- a comparison of numbers is kept by a function that keeps their order
kept : (f : ℕ → ℕ) → ((x y : ℕ) → x < y → f x < f y) → (x y : ℕ) → cmp_nat (f x) (f y) ≡ cmp_nat x y
kept f up x y = by (tri x y)
  where
    by : Tri x y → cmp_nat (f x) (f y) ≡ cmp_nat x y
    by (below h e) = nat-less (f x) (f y) (up x y h) ∙ sym e
    by (at h e) = nat-same (f x) (f y) (ap f h) ∙ sym e
    by (above h e) = nat-greater (f x) (f y) (up y x h) ∙ sym e

hex-up : (x y : ℕ) → x < y → hex_of x < hex_of y
hex-up x y h = by (ltb x 10) refl (ltb y 10) refl
  where
    by : (s : Bool) → ltb x 10 ≡ s → (t : Bool) → ltb y 10 ≡ t → pick s (48 + x) (97 + (x - 10)) < pick t (48 + y) (97 + (y - 10))
    by true e true f = omega arith
    by true e false f = omega (arith, ltb-true x 10 e)
    by false e true f = omega (arith, ltb-false x 10 e, ltb-true y 10 f)
    by false e false f = omega (arith, ltb-false x 10 e, ltb-false y 10 f)

-- two digits of base sixteen are a number
digits : (a b : ℕ) → and_then (cmp_nat (a / 16) (b / 16)) (and_then (cmp_nat (a % 16) (b % 16)) Equal) ≡ cmp_nat a b
digits a b = by (tri (a / 16) (b / 16)) (tri (a % 16) (b % 16))
  where
    by : Tri (a / 16) (b / 16) → Tri (a % 16) (b % 16)
        → and_then (cmp_nat (a / 16) (b / 16)) (and_then (cmp_nat (a % 16) (b % 16)) Equal) ≡ cmp_nat a b
    by (below h e) t = rw e (sym (nat-less a b (omega arith)))
    by (above h e) t = rw e (sym (nat-greater a b (omega arith)))
    by (at h e) (below k f) = rw (e, f) (sym (nat-less a b (omega arith)))
    by (at h e) (at k f) = rw (e, f) (sym (nat-same a b (omega arith)))
    by (at h e) (above k f) = rw (e, f) (sym (nat-greater a b (omega arith)))

data Kind (k : ℕ) : Type 0 where
  func : k ≡ 0 → Kind k
  table : k ≡ 1 → Kind k
  memory : k ≡ 2 → Kind k
  global : k ≡ 3 → Kind k
  other : 3 < k → rank_of k ≡ k → kind_slug k ≡ kind_word (Other k) → Kind k

kind : (k : ℕ) → Kind k
unfolding rank_of kind_of
kind zero = func refl
kind (suc zero) = table refl
kind (suc (suc zero)) = memory refl
kind (suc (suc (suc zero))) = global refl
kind (suc (suc (suc (suc k)))) =
    let n : ℕ = suc (suc (suc (suc k))) in
    let not : (m : ℕ) → m ≤ 3 → eqb n m ≡ false = λ m h. ne_eqb n m (λ e. omega arith) in
    other (omega arith) (rw (not 1 (omega arith), not 3 (omega arith)))
    (rw (not 0 (omega arith), not 1 (omega arith), not 2 (omega arith), not 3 (omega arith)))

others : (a b : ℕ) → cmp_nat a b ≡ cmp_bytes (kind_word (Other a)) (kind_word (Other b))
unfolding cmp_bytes
others a b = rw (kept hex_of hex-up (a / 16) (b / 16), kept hex_of hex-up (a % 16) (b % 16)) (sym (digits a b))

pub rank-order : (a b : ℕ) → a ≤ 255 → b ≤ 255 → cmp_nat (rank_of a) (rank_of b) ≡ cmp_bytes (kind_slug a) (kind_slug b)
unfolding rank_of kind_of cmp_bytes
rank-order a b h k = by (kind a) (kind b)
  where
    by : Kind a → Kind b → cmp_nat (rank_of a) (rank_of b) ≡ cmp_bytes (kind_slug a) (kind_slug b)
    by (func p) (func q) = rw (p, q)
    by (func p) (table q) = rw (p, q)
    by (func p) (memory q) = rw (p, q)
    by (func p) (global q) = rw (p, q)
    by (func p) (other m r s) = rw (p, r, s) (nat-less 0 b (omega arith))
    by (table p) (func q) = rw (p, q)
    by (table p) (table q) = rw (p, q)
    by (table p) (memory q) = rw (p, q)
    by (table p) (global q) = rw (p, q)
    by (table p) (other m r s) = rw (p, r, s) (nat-greater 256 b (omega arith))
    by (memory p) (func q) = rw (p, q)
    by (memory p) (table q) = rw (p, q)
    by (memory p) (memory q) = rw (p, q)
    by (memory p) (global q) = rw (p, q)
    by (memory p) (other m r s) = rw (p, r, s) (nat-less 2 b (omega arith))
    by (global p) (func q) = rw (p, q)
    by (global p) (table q) = rw (p, q)
    by (global p) (memory q) = rw (p, q)
    by (global p) (global q) = rw (p, q)
    by (global p) (other m r s) = rw (p, r, s) (nat-less 1 b (omega arith))
    by (other m r s) (func q) = rw (q, r, s) (nat-greater a 0 (omega arith))
    by (other m r s) (table q) = rw (q, r, s) (nat-less a 256 (omega arith))
    by (other m r s) (memory q) = rw (q, r, s) (nat-greater a 2 (omega arith))
    by (other m r s) (global q) = rw (q, r, s) (nat-greater a 1 (omega arith))
    by (other m r s) (other n t u) = rw (r, s, t, u) (others a b)
