-- What is asked of a policy that was read, and of a domain that is named by its number. Assumes nothing.
use Rattle.std.specs.Prelude.{Result, Ok, Err}
use Prim.Native.Nat.{ℕ}
use native.Mathlib.Omega.{arith}
use mathlib.Core.Bool.{Bool, true, false}
use mathlib.Core.Path.{◌≡◌, refl, sym, ◌∙◌, ap}
use lib.Dec.{ltb}
use Rattle.refusal.specs.Pick.{pick}
use Rattle.refusal.specs.Said.{Said, refused_by, follow, said_by}
use Rattle.refusal.proofs.Following.{follow-stops, follow-goes}
use Rattle.refusal.specs.declared.Refusal.{Refusal}
use Rattle.domains.specs.Domain.{nothing, just, numbered}
use Rattle.policy.specs.declared.Policy.{Policy}

-- a number above 6 names no domain, another names its own
apart : {n : ℕ} → nothing ≡ just n → ⊥
apart h = let z : ◌≡◌ {A = ℕ} 0 1 = cc in omega arith

module _ {X : Type 0} (k : ℕ) (y : X) where
  by-test : (t : Bool) (x : X) → nothing ≡ pick t (just k) nothing → y ≡ pick t x y
  by-test true x h = absurd (apart h)
  by-test false x h = refl

  pub no-domain : (x : X) → nothing ≡ numbered k → y ≡ pick (ltb k 7) x y
  unfolding numbered
  no-domain x h = by-test (ltb k 7) x h

  known : (f : ℕ → X) {n : ℕ} (t : Bool) → just n ≡ pick t (just k) nothing → f n ≡ pick t (f k) y
  known f {n} true h = let i : n ≡ k = cc in rw i
  known f false h = absurd (apart (sym h))

  pub a-domain : (f : ℕ → X) {n : ℕ} → just n ≡ numbered k → f n ≡ pick (ltb k 7) (f k) y
  unfolding numbered
  a-domain f h = known f (ltb k 7) h

-- what follows a policy that was read, by the answer
module _ {Y : Type 0} (f : Policy → Said Y) where
  pub read-stops : (d : Said Policy) (r : Result Policy Refusal) {w : Refusal} → said_by r ≡ d → r ≡ Err w → refused_by w ≡ follow d f
  read-stops d r h e = follow-stops f (sym h ∙ ap said_by e)

  pub read_goes : (d : Said Policy) (r : Result Policy Refusal) {p : Policy} → said_by r ≡ d → r ≡ Ok p → f p ≡ follow d f
  read_goes d r h e = follow-goes f (sym h ∙ ap said_by e) refl
