-- A range that lies in so many bytes, by its end. Assumes nothing.
use mathlib.Core.Path.{◌≡◌, refl, sym, ◌∙◌}
use mathlib.Core.Bool.{Bool, true, false}
use Prim.Native.Nat.{ℕ, ◌+◌, ◌-◌, ◌≤◌, ◌<◌}
use native.Mathlib.Omega.{arith}
use borrow.Author.Tests.{le-leb, lt-leb, leb-true, leb-false}
use lib.Dec.{leb}
use Rattle.refusal.specs.Sizes.{fits_in}

module _ (n from len : ℕ) where
  -- by a difference
  pub ends-inside : len ≤ n → leb from (n - len) ≡ fits_in n from len
  ends-inside h = by (leb from (n - len)) refl where
    by : (t : Bool) → leb from (n - len) ≡ t → leb from (n - len) ≡ fits_in n from len
    by true e = e ∙ sym (le-leb (from + len) n (omega (arith, leb-true from (n - len) e)))
    by false e = e ∙ sym (lt-leb (from + len) n (omega (arith, leb-false from (n - len) e)))

  pub ends-outside : n < len → false ≡ fits_in n from len
  ends-outside h = sym (lt-leb (from + len) n (omega arith))

  -- by what the test said
  pub said_in : {r : Bool} → r ≡ fits_in n from len → r ≡ true → from + len ≤ n
  said_in e h = leb-true (from + len) n (sym e ∙ h)

  pub said-out : {r : Bool} → r ≡ fits_in n from len → r ≡ false → n < from + len
  said-out e h = leb-false (from + len) n (sym e ∙ h)
