-- The search for a row's rank among the rows of the other list. Assumes nothing.
use mathlib.Core.Path.{◌≡◌, refl, sym, ◌∙◌, ap}
use mathlib.Core.Bool.{Bool, true, false, ◌||◌}
use mathlib.Core.List.{List}
use Prim.Native.Nat.{ℕ, zero, suc, ◌+◌, ◌-◌, ◌≤◌, ◌<◌}
use native.Mathlib.Omega.{arith}
use borrow.Author.Tests.{lt-ltb, le-ltb, eq-eqb, ne_eqb, eqb-true, eqb-false}
use lib.Dec.{eqb, ltb}
use lib.ListN.{length, get_or, take, drop}
use Rattle.std.specs.List.{list_any}
use Rattle.refusal.specs.Pick.{pick}
use Rattle.text.proofs.Laws.{left-next}
use Rattle.differences.specs.Numbers.{some_from}
use Rattle.std.specs.declared.ops.Range.{Range}
use Rattle.keyed.specs.Keying.{others_of, some_other, lonely}

-- ---- a search, from a row on
module _ (p : ℕ → Bool) (i n : ℕ) where
  pub some-hit : i < n → p i ≡ true → some_from p i (n - i) ≡ true
  unfolding some_from
  some-hit h e = let k : n - i ≡ suc (n - (i + 1)) = omega arith in rw (k, e)

  pub some-miss : i < n → p i ≡ false → some_from p i (n - i) ≡ some_from p (i + 1) (n - (i + 1))
  unfolding some_from
  some-miss h e =
      let k : n - i ≡ suc (n - (i + 1)) = omega arith in
      ap (some_from p i) k ∙ rw e

  pub some_end : n ≤ i → some_from p i (n - i) ≡ false
  unfolding some_from
  some_end h = let k : n - i ≡ 0 = omega arith in rw k

-- rows that do not pass, passed at once
pub some-pass : (p : ℕ → Bool) (i n k : ℕ) → i + k ≤ n → ((m : ℕ) → i ≤ m → m < i + k → p m ≡ false)
    → some_from p i (n - i) ≡ some_from p (i + k) (n - (i + k))
some-pass p i n zero h miss = let e : i + 0 ≡ i = omega arith in rw e
some-pass p i n (suc k) h miss =
    let e : i + 1 + k ≡ i + suc k = omega arith in
    some-miss p i n (omega arith) (miss i (omega arith) (omega arith))
    ∙ some-pass p (i + 1) n k (omega arith) (λ m a b. miss m (omega arith) (omega arith))
    ∙ ap (λ (j : ℕ). some_from p j (n - j)) e

-- two tests that agree on the rows find alike
pub some-agree : (p q : ℕ → Bool) (j k : ℕ) → ((m : ℕ) → j ≤ m → m < j + k → p m ≡ q m) → some_from p j k ≡ some_from q j k
unfolding some_from
some-agree p q j zero h = refl
some-agree p q j (suc k) h =
    rw (h j (omega arith) (omega arith), some-agree p q (j + 1) k (λ m a b. h m (omega arith) (omega arith)))

-- a test of each element of a run
any-run : (p q : ℕ → Bool) (l : List ℕ) (j k : ℕ) → j + k ≤ length l → ((m : ℕ) → q m ≡ p (get_or l m 0))
    → list_any p (take k (drop j l)) ≡ some_from q j k
unfolding some_from
any-run p q l j zero h e = refl
any-run p q l j (suc k) h e =
    rw (left-next l j (omega arith), e j) (ap (λ (b : Bool). p (get_or l j 0) || b) (any-run p q l (j + 1) k (omega arith) e))

eqb-sym : (x y : ℕ) → eqb x y ≡ eqb y x
eqb-sym x y = by (eqb x y) refl
  where
    by : (t : Bool) → eqb x y ≡ t → t ≡ eqb y x
    by true e = sym (eq-eqb y x (sym (eqb-true x y e)))
    by false e = sym (ne_eqb y x (λ q. eqb-false x y e (sym q)))

-- ---- the rows of the other list
pub others-first : (nb n i : ℕ) → i < nb → ◌≡◌ {A = Range ℕ} (record { start = nb; end = n }) (others_of nb n i)
unfolding others_of
others-first nb n i h = rw (lt-ltb i nb h)

pub others-second : (nb n i : ℕ) → nb ≤ i → ◌≡◌ {A = Range ℕ} (record { start = 0; end = nb }) (others_of nb n i)
unfolding others_of
others-second nb n i h = rw (le-ltb i nb h)

pub others-order : (nb n i : ℕ) {o : Range ℕ} → o ≡ others_of nb n i → nb ≤ n → o.start ≤ o.end
unfolding others_of
others-order nb n i {o} e h = by (ltb i nb) e
  where
    by : (t : Bool) → o ≡ pick t (record { start = nb; end = n }) (record { start = 0; end = nb }) → o.start ≤ o.end
    by true q = omega (arith, ap (λ (s : Range ℕ). s.start) q, ap (λ (s : Range ℕ). s.end) q)
    by false q = omega (arith, ap (λ (s : Range ℕ). s.start) q, ap (λ (s : Range ℕ). s.end) q)

pub others-end : (nb n i : ℕ) {o : Range ℕ} → o ≡ others_of nb n i → nb ≤ n → o.end ≤ n
unfolding others_of
others-end nb n i {o} e h = by (ltb i nb) e
  where
    by : (t : Bool) → o ≡ pick t (record { start = nb; end = n }) (record { start = 0; end = nb }) → o.end ≤ n
    by true q = omega (arith, ap (λ (s : Range ℕ). s.end) q)
    by false q = omega (arith, ap (λ (s : Range ℕ). s.end) q)

pub other-agree : (p q : ℕ → Bool) (nb n i : ℕ) → nb ≤ n → ((m : ℕ) → m < n → p m ≡ q m) → some_other p nb n i ≡ some_other q nb n i
unfolding some_other
other-agree p q nb n i h a =
    let o = others_of nb n i in
    let e : o.end ≤ n = others-end nb n i refl h in
    some-agree p q o.start (o.end - o.start) (λ m k l. a m (omega arith))

-- ---- a row's rank, or zero
module _ (ranks : List ℕ) (nb n i : ℕ) where
  -- row j has the rank of row i
  unfoldable pub like : ℕ → Bool
  like j = eqb (get_or ranks i 0) (get_or ranks j 0)

  -- the rows of the other list are a run of the ranks
  pub found-other : {o : Range ℕ} {t : Bool} → o ≡ others_of nb n i → nb ≤ n → n ≤ length ranks
      → t ≡ list_any (λ r. eqb r (get_or ranks i 0)) (take (o.end - o.start) (drop o.start ranks)) → some_other like nb n i ≡ t
  unfolding some_other like
  found-other {o} {t} e h k q =
      let a : o.start ≤ o.end = others-order nb n i e h in
      let b : o.end ≤ n = others-end nb n i e h in
      sym (q
      ∙ any-run (λ r. eqb r (get_or ranks i 0)) (λ j. eqb (get_or ranks i 0) (get_or ranks j 0)) ranks o.start (o.end - o.start)
      (omega arith)
      (λ j. eqb-sym (get_or ranks i 0) (get_or ranks j 0))
      ∙ ap (λ (s : Range ℕ). some_from (λ j. eqb (get_or ranks i 0) (get_or ranks j 0)) s.start (s.end - s.start)) e)

  pub lonely-met : some_other like nb n i ≡ true → 0 ≡ lonely ranks nb n i
  unfolding lonely like
  lonely-met e = rw e

  pub lonely-kept : some_other like nb n i ≡ false → get_or ranks i 0 ≡ lonely ranks nb n i
  unfolding lonely like
  lonely-kept e = rw e
