-- What holds of all that is accepted. A law for each way in which outcomes are made. Assumes nothing.
use Prim.Native.Nat.{ℕ, zero, suc, ◌-◌}
use mathlib.Core.Path.{◌≡◌, refl, subst}
use mathlib.Core.Bool.{Bool, true, false}
use mathlib.Core.List.{List, [], ◌∷◌, ◌++◌}
use lib.ListN.{length, drop}
use lib.Dec.{ltb}
use Rattle.refusal.specs.Pick.{pick}
use Rattle.refusal.specs.Each.{Each, each_nil, each-cons}
use Rattle.refusal.specs.Said.{Said, accepted, refused, follow, Got, got, onward, spot, Place}
use Rattle.refusal.proofs.Following.{never, followed, read-on}
use Rattle.text.specs.Walk.{stop, go, walk}
use Rattle.table.specs.Entries.{entries_from}
use Rattle.table.specs.Walking.{turn_of, walk_from}

-- what x accepts has P
unfoldable pub Gives : {T : Type 0} → (T → Type 0) → Said T → Type 0
Gives {T} P x = (t : T) → x ≡ accepted t → P t

-- the value that was read has P
unfoldable pub Of : {T : Type 0} → (T → Type 0) → Got T → Type 0
Of P (got v d) = P v

module _ {T : Type 0} (P : T → Type 0) where
  pub gives-done : (t : T) → P t → Gives P (accepted t)
  unfolding Gives
  gives-done t h u q = let k : t ≡ u = cc in subst P k h

  pub gives-stop : (n : ℕ) (p : Place) → Gives P (refused n p)
  unfolding Gives
  gives-stop n p t e = absurd (never e)

  pub gives-pick : (b : Bool) (x y : Said T) → Gives P x → Gives P y → Gives P (pick b x y)
  gives-pick true x y p q = p
  gives-pick false x y p q = q

  pub gives-follow : {X : Type 0} (x : Said X) (k : X → Said T) → ((v : X) → x ≡ accepted v → Gives P (k v)) → Gives P (follow x k)
  unfolding Gives
  gives-follow x k h t e = let f = followed x k e in h f.what f.first t f.then

  pub gives-onward : {X : Type 0} (x : Said (Got X)) (k : X → ℕ → Said T)
      → ((v : X) (p : ℕ) → x ≡ accepted (got v p) → Gives P (k v p)) → Gives P (onward x k)
  unfolding Gives
  gives-onward x k h t e = let f = read-on x k e in h f.what f.next f.first t f.then

-- a walk whose steps keep P
module _ {T : Type 0} (P : T → Type 0) (step : ℕ → T → Said (Got T)) (keeps : (i : ℕ) (t : T) → P t → Gives (Of P) (step i t)) where
  gives-walk : (t : T) (at k : ℕ) (l : List ℕ) → P t
      → Gives (Of P) (walk (λ st i rest. turn_of i (step i st)) (λ st i. accepted (got st i)) t at k l)
  unfolding walk Gives turn_of Of
  gives-walk t at k [] h u e = gives-done (Of P) (got t at) h u e
  gives-walk t at (suc k) (x ∷ l) h u e = gives-walk t (suc at) k l h u e
  gives-walk t at zero (x ∷ l) h u e = by (λ v k p f. gives-walk v (suc at) k l p u f) (step at t) refl e where
    by : ((v : T) (k : ℕ) → P v → walk (λ st i rest. turn_of i (step i st)) (λ st i. accepted (got st i)) v (suc at) k l ≡ accepted u
        → Of P u) → (y : Said (Got T)) → step at t ≡ y
        → elim (turn_of at y)
        [ stop r ↦ r | go st k ↦ walk (λ st i rest. turn_of i (step i st)) (λ st i. accepted (got st i)) st (suc at) k l ] ≡ accepted u
        → Of P u
    by ih (accepted (got v c)) q f = ih v (c - suc at) (keeps at t h (got v c) q) f
    by ih (refused n p) q f = absurd (never f)

  pub gives-from : (b : List ℕ) (at : ℕ) (t : T) → P t → Gives (Of P) (walk_from step b at t)
  unfolding walk_from
  gives-from b at t h = gives-walk t at 0 (drop at b) h

each_snoc : {E : Type 0} (P : E → Type 0) (es : List E) (e : E) → Each P es → P e → Each P (es ++ (e ∷ []))
each_snoc P [] e each_nil h = each-cons h each_nil
each_snoc P (x ∷ es) e (each-cons p a) h = each-cons p (each_snoc P es e a h)

-- a run of entries each of which has P
module _ {E : Type 0} (P : E → Type 0) (read : ℕ → Said (Got E)) (good : (at : ℕ) → Gives (Of P) (read at)) (tn room : ℕ) where
  pub gives-entries : (n at : ℕ) (rows : List E) → Each P rows → Gives (Of (Each P)) (entries_from read tn room n at rows)
  unfolding entries_from Gives Of
  gives-entries zero at rows h = gives-done (Of (Each P)) (got rows at) h
  gives-entries (suc n) at rows h =
      gives-onward (Of (Each P)) (read at) _
      (λ v next e. gives-pick (Of (Each P)) (ltb (length rows) room) _ _
      (gives-entries n next (rows ++ (v ∷ [])) (each_snoc P rows v h (good at (got v next) e))) (gives-stop (Of (Each P)) 13 (spot tn)))
