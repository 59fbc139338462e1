-- The loop over things that follow one another: what is left answers as the whole does.
-- Stated once, over the state, the step and what is held. Assumes nothing.
use Prim.Native.Nat.{ℕ, suc, ◌+◌, ◌-◌, ◌≤◌, ◌<◌}
use mathlib.Core.Path.{◌≡◌, sym, ◌∙◌, ap, subst}
use mathlib.Core.List.{List}
use lib.ListN.{length, drop}
use native.Mathlib.Omega.{arith}
use Rattle.text.specs.Walk.{walk}
use Rattle.text.proofs.WalkLaws.{walk-go, walk-stop, walk-done}
use Rattle.refusal.specs.Said.{Said, accepted, refused, Got, got, Place}
use Rattle.table.specs.Told.{ReaderTells}
use Rattle.table.specs.Walking.{turn_of, walk_from}
use Rattle.table.proofs.Telling.{tell-stop, tell-got, told-stop, told-got}

module _ {T : Type 0} (step : ℕ → T → Said (Got T)) (b : List ℕ) (at : ℕ) (t : T) where
  pub from_end : length b ≤ at → walk_from step b at t ≡ accepted (got t at)
  unfolding walk_from
  from_end h = walk-done (λ st i rest. turn_of i (step i st)) (λ st i. accepted (got st i)) b t at h

  pub from-stop : (n : ℕ) (p : Place) → at < length b → step at t ≡ refused n p → walk_from step b at t ≡ refused n p
  unfolding walk_from turn_of
  from-stop n p h e =
      walk-stop (λ st i rest. turn_of i (step i st)) (λ st i. accepted (got st i)) b t at (refused n p) h (rw e)

  pub from-go : (u : T) (d : ℕ) → step at t ≡ accepted (got u d) → at < d → d ≤ length b → walk_from step b at t ≡ walk_from step b d u
  unfolding walk_from turn_of
  from-go u d e h k =
      let q : at + suc (d - suc at) ≡ d = omega arith in
      walk-go (λ st i rest. turn_of i (step i st)) (λ st i. accepted (got st i)) b t u at (d - suc at) (rw e) (omega arith)
      ∙ ap (λ (i : ℕ). walk (λ st i rest. turn_of i (step i st)) (λ st i. accepted (got st i)) u i 0 (drop i b)) q

-- the state of the loop
pub record Going {T A : Type 0} (f : T → A) (Q : T → Type 0) (n : A) (step : ℕ → T → Said (Got T)) (b : List ℕ) (all : Said (Got T))
    (at : ℕ) : Type 0 where
  pub state : T
  pub value : n ≡ f state
  pub held : Q state
  pub goes_on : walk_from step b at state ≡ all

pub going_end : {T A : Type 0} {f : T → A} {Q : T → Type 0} {n : A} {step : ℕ → T → Said (Got T)} {b : List ℕ} {all : Said (Got T)}
    {at : ℕ} → Going f Q n step b all at → length b ≤ at → ReaderTells f Q all (accepted (got n at))
going_end {step = step} {b = b} {at = at} g h =
    tell-got g.state at (sym g.goes_on ∙ from_end step b at g.state h) g.value g.held

-- a turn, of which the code's answer a is told for every state that could be; z is what does not change, the tables' sizes
module _ {Z T A : Type 0} {f : T → A} (step : Z → ℕ → T → Said (Got T)) (Q Q1 : Z → T → Type 0) {n : A} {b : List ℕ}
    {all : Said (Got T)} {at : ℕ} {z z1 : Z} (g : Going f (Q z) n (step z) b all at) (same : z1 ≡ z) {a : Said (Got A)}
    (told : (t : T) → n ≡ f t → Q z1 t → ReaderTells f (Q1 z1) (step z1 at t) a) where
  here : ReaderTells f (Q1 z) (step z at g.state) a
  here =
      subst (λ (y : Z). (t : T) → n ≡ f t → Q y t → ReaderTells f (Q1 y) (step y at t) a) same told
      g.state g.value g.held

  pub going-off : {P : T → Type 0} {m : ℕ} {p : Place} → at < length b → a ≡ refused m p → ReaderTells f P all (refused m p)
  going-off {m = m} {p = p} h q = tell-stop (sym g.goes_on ∙ from-stop (step z) b at g.state m p h (told-stop here q))

  pub going_on : {m : A} {d : ℕ} → a ≡ accepted (got m d) → at < d → d ≤ length b → Going f (Q1 z) m (step z) b all d
  going_on {d = d} q h k =
      let o = told-got here q in
      record {
        state = o.what;
        value = o.value;
        held = o.held;
        goes_on = sym (from-go (step z) b at g.state o.what d o.is h k) ∙ g.goes_on;
      }
