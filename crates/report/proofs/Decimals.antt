-- Numbers in decimal: the last digit, and those before it. Assumes nothing.
use mathlib.Core.Path.{◌≡◌, refl, ap}
use mathlib.Core.Bool.{Bool, true, false}
use mathlib.Core.List.{List, [], ◌∷◌, ◌++◌}
use Prim.Native.Nat.{ℕ, zero, suc, ◌+◌, ◌/◌, ◌%◌, ◌≤◌, ◌<◌}
use native.Mathlib.Omega.{arith}
use lib.Dec.{ltb}
use borrow.Author.Tests.{lt-ltb, le-ltb, ltb-false}
use Rattle.refusal.specs.Pick.{pick}
use Rattle.report.specs.Decimal.{digits, decimal_of}

pub tenth-less : (n : ℕ) → 10 ≤ n → n / 10 < n
tenth-less n h = omega arith

-- where there is room for more digits, they are the same
enough : (k j n : ℕ) → n ≤ k → n ≤ j → digits k n ≡ digits j n
unfolding digits
enough zero zero n h i = refl
enough zero (suc j) zero h i = refl
enough zero (suc j) (suc n) h i = absurd (omega arith)
enough (suc k) zero zero h i = refl
enough (suc k) zero (suc n) h i = absurd (omega arith)
enough (suc k) (suc j) n h i = by (ltb n 10) refl (λ l. enough k j (n / 10) (omega arith) (omega arith))
  where
    by : (t : Bool) → ltb n 10 ≡ t → (n / 10 < n → digits k (n / 10) ≡ digits j (n / 10))
        → pick t ((48 + n) ∷ []) (digits k (n / 10) ++ ((48 + n % 10) ∷ []))
        ≡ pick t ((48 + n) ∷ []) (digits j (n / 10) ++ ((48 + n % 10) ∷ []))
    by true q ih = refl
    by false q ih = ap (λ (w : List ℕ). w ++ ((48 + n % 10) ∷ [])) (ih (tenth-less n (ltb-false n 10 q)))

pub one-digit : (n : ℕ) → n < 10 → decimal_of n ≡ (48 + n) ∷ []
unfolding decimal_of digits
one-digit zero h = refl
one-digit (suc n) h = rw (lt-ltb (suc n) 10 h)

pub more-digits : (n : ℕ) → 10 ≤ n → decimal_of n ≡ decimal_of (n / 10) ++ ((48 + n % 10) ∷ [])
unfolding decimal_of digits
more-digits zero h = absurd (omega arith)
more-digits (suc n) h =
    let l = tenth-less (suc n) h in
    let e : digits n (suc n / 10) ≡ digits (suc n / 10) (suc n / 10) = enough n (suc n / 10) (suc n / 10) (omega arith) (omega arith) in
    rw (le-ltb (suc n) 10 h) (ap (λ (w : List ℕ). w ++ ((48 + suc n % 10) ∷ [])) e)
