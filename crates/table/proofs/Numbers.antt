-- The numbers of refusals: what holds of them, a law for each way in which outcomes are made. Assumes nothing.
use Prim.Native.Nat.{ℕ, zero, suc, ◌-◌}
use mathlib.Core.Path.{◌≡◌, refl, sym, subst}
use mathlib.Core.Bool.{Bool, true, false}
use mathlib.Core.List.{List, [], ◌∷◌}
use lib.ListN.{drop}
use Rattle.refusal.specs.Pick.{pick}
use Rattle.refusal.specs.Said.{Said, accepted, refused, follow, Got, got, onward, Place}
use Rattle.refusal.proofs.Following.{never}
use Rattle.text.specs.Walk.{stop, go, walk}
use Rattle.table.specs.Walking.{turn_of, walk_from}

-- a refusal's number has the property P
pub record Numbers {X : Type 0} (P : ℕ → Type 0) (x : Said X) : Type 0 where
  pub number : (n : ℕ) (p : Place) → x ≡ refused n p → P n

pub fine : {X : Type 0} {P : ℕ → Type 0} (v : X) → Numbers P (accepted v)
fine v = record { number = λ n p e. absurd (never (sym e)) }

pub off : {X : Type 0} {P : ℕ → Type 0} (n : ℕ) (p : Place) → P n → Numbers {X = X} P (refused n p)
off {X} {P} n p h = record { number = λ m q e. by e } where
  by : {m : ℕ} {q : Place} → ◌≡◌ {A = Said X} (refused n p) (refused m q) → P m
  by {m} e = let k : n ≡ m = cc in subst P k h

pub choice : {X : Type 0} {P : ℕ → Type 0} (t : Bool) {x y : Said X} → Numbers P x → Numbers P y → Numbers P (pick t x y)
choice true a b = a
choice false a b = b

pub follows : {X Y : Type 0} {P : ℕ → Type 0} (x : Said X) (f : X → Said Y) → Numbers P x → ((v : X) → Numbers P (f v))
    → Numbers P (follow x f)
unfolding follow
follows (accepted v) f a b = b v
follows (refused n p) f a b = off n p (a.number n p refl)

pub chain : {X Y : Type 0} {P : ℕ → Type 0} (x : Said (Got X)) (f : X → ℕ → Said Y) → Numbers P x
    → ((v : X) (d : ℕ) → Numbers P (f v d)) → Numbers P (onward x f)
unfolding onward
chain (accepted (got v d)) f a b = b v d
chain (refused n p) f a b = off n p (a.number n p refl)

module _ {T : Type 0} {P : ℕ → Type 0} (step : ℕ → T → Said (Got T)) (h : (at : ℕ) (t : T) → Numbers P (step at t)) where
  abbrev walked : T → ℕ → ℕ → List ℕ → Said (Got T)
  walked = walk (λ st i rest. turn_of i (step i st)) (λ st i. accepted (got st i))

  walks : (t : T) (at k : ℕ) (l : List ℕ) → Numbers P (walked t at k l)
  unfolding walk turn_of
  walks t at k [] = fine _
  walks t at (suc k) (x ∷ l) = walks t (suc at) k l
  walks t at zero (x ∷ l) = by (λ v k. walks v (suc at) k l) (step at t) (h at t) where
    by : ((v : T) (k : ℕ) → Numbers P (walked v (suc at) k l)) → (y : Said (Got T)) → Numbers P y
        → Numbers {X = Got T} P (elim (turn_of at y) [ stop r ↦ r | go st k ↦ walked st (suc at) k l ])
    by ih (accepted (got v c)) a = ih v (c - suc at)
    by ih (refused n p) a = a

  pub walks_from : (b : List ℕ) (at : ℕ) (t : T) → Numbers P (walk_from step b at t)
  unfolding walk_from
  walks_from b at t = walks t at 0 (drop at b)
