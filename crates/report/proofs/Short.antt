-- A number and the line of a refusal have fewer bytes than a line takes: they lose no end. Assumes nothing.
use mathlib.Core.Path.{◌≡◌, refl, ap}
use mathlib.Core.Bool.{Bool, true, false}
use mathlib.Core.List.{[], ◌∷◌, ◌++◌}
use Prim.Native.Nat.{ℕ, zero, suc, ◌+◌, ◌*◌, ◌/◌, ◌%◌, ◌≤◌, ◌<◌}
use native.Mathlib.Omega.{arith}
use lib.Dec.{ltb}
use lib.ListN.{length, length-append}
use borrow.Author.Tests.{ltb-true, ltb-false}
use Rattle.output.specs.Bytes.{most}
use Rattle.report.specs.Decimal.{decimal_of}
use Rattle.report.specs.Words.{at_w}
use Rattle.report.specs.Texts.{lf, refused_text}
use Rattle.report.proofs.Decimals.{one-digit, more-digits}

-- ---- how many digits a number has
unfoldable tens : ℕ → ℕ
tens zero = 10
tens (suc k) = 10 * tens k

digits-few : (k n : ℕ) → n < tens k → length (decimal_of n) ≤ suc k
unfolding tens
digits-few zero n h = omega (arith, ap length (one-digit n h))
digits-few (suc k) n h = by (ltb n 10) refl (digits-few k (n / 10))
  where
    by : (t : Bool) → ltb n 10 ≡ t → (n / 10 < tens k → length (decimal_of (n / 10)) ≤ suc k) → length (decimal_of n) ≤ suc (suc k)
    by true q ih = omega (arith, ap length (one-digit n (ltb-true n 10 q)))
    by false q ih =
        let l : n / 10 < tens k = omega arith in
        omega (arith, ap length (more-digits n (ltb-false n 10 q)), length-append (decimal_of (n / 10)) ((48 + n % 10) ∷ []), ih l)

pub decimal-short : (n : ℕ) → n ≤ most → length (decimal_of n) ≤ 20
decimal-short n h = let t : tens 19 ≡ 100000000000000000000 = unfold tens in refl in digits-few 19 n (omega (arith, t))

-- ---- the line
pub refused-short : (n p : ℕ) → n ≤ most → p ≤ most → length (refused_text n p) ≤ 53
unfolding refused_text
refused-short n p h k =
    omega (
      arith,
      length-append (decimal_of n) (at_w ++ (decimal_of p ++ lf)),
      length-append (decimal_of p) lf,
      decimal-short n h,
      decimal-short p k,
    )
