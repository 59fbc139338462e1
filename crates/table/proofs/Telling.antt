-- Laws of `ReaderTells`: how a promise is made, followed and read. Assumes nothing.
use Prim.Native.Nat.{ℕ, ◌≤◌, ◌<◌}
use mathlib.Core.Path.{◌≡◌, refl, sym, ◌∙◌, ap}
use Rattle.refusal.specs.Said.{Said, accepted, refused, refused_by, relocated, moved_on, Got, got, onward, Place}
use Rattle.refusal.specs.declared.Refusal.{Refusal}
use Rattle.refusal.proofs.Following.{never, relocated-got, relocated-on}
use Rattle.refusal.proofs.Known.{moved-said}
use Rattle.table.specs.Told.{mapped, ReaderTells, Passed, Ends}

module _ {T A : Type 0} {f : T → A} {P : T → Type 0} where
  -- a promise is made
  pub tell-stop : {x : Said (Got T)} {n : ℕ} {p : Place} → x ≡ refused n p → ReaderTells f P x (refused n p)
  unfolding mapped
  tell-stop e = record { answer-is = rw e; holds = λ t d q. absurd (never (sym e ∙ q)) }

  pub tell-got : {x : Said (Got T)} (t : T) (d : ℕ) {m : A} → x ≡ accepted (got t d) → m ≡ f t → P t
      → ReaderTells f P x (accepted (got m d))
  unfolding mapped
  tell-got {x} t d e v h = record { answer-is = rw (e, v); holds = λ u k q. by u k (sym e ∙ q) } where
    by : (u : T) (k : ℕ) → accepted (got t d) ≡ accepted (got u k) → P u
    by u k q = let z : t ≡ u = cc in rw z at h

  -- after a reading
  pub tell-first : {X : Type 0} {x : Said (Got X)} (k : X → ℕ → Said (Got T)) {v w : Refusal}
      → x ≡ refused_by w → v ≡ w → ReaderTells f P (onward x k) (refused_by v)
  unfolding onward
  tell-first k e q = tell-stop (rw (e, q))

  pub tell-next : {X : Type 0} {x : Said (Got X)} (k : X → ℕ → Said (Got T)) {v : X} {p : ℕ} {a : Said (Got A)}
      → x ≡ accepted (got v p) → ReaderTells f P (k v p) a → ReaderTells f P (onward x k) a
  unfolding onward
  tell-next k e h = rw e h

-- what a promise gives where the answer is an acceptance
pub record Read {T A : Type 0} (f : T → A) (P : T → Type 0) (x : Said (Got T)) (m : A) (d : ℕ) : Type 0 where
  pub what : T
  pub is : x ≡ accepted (got what d)
  pub value : m ≡ f what
  pub held : P what

module _ {T A : Type 0} {f : T → A} {P : T → Type 0} {x : Said (Got T)} {a : Said (Got A)} where
  -- a promise is read
  pub told-stop : {n : ℕ} {p : Place} → ReaderTells f P x a → a ≡ refused n p → x ≡ refused n p
  unfolding mapped
  told-stop {n} {p} h q = by x (sym q ∙ h.answer-is) where
    by : (y : Said (Got T)) → refused n p ≡ mapped f y → y ≡ refused n p
    by (accepted (got t d)) e = absurd (never e)
    by (refused m k) e = let u : n ≡ m = cc in let v : p ≡ k = cc in rw (u, v)

  pub told-got : {m : A} {d : ℕ} → ReaderTells f P x a → a ≡ accepted (got m d) → Read f P x m d
  unfolding mapped
  told-got {m} {d} h q = by x refl (sym q ∙ h.answer-is) where
    by : (y : Said (Got T)) → x ≡ y → accepted (got m d) ≡ mapped f y → Read f P x m d
    by (accepted (got t k)) w e = let z : d ≡ k = cc in record { what = t; is = rw z w; value = cc; held = h.holds t k w }
    by (refused n k) w e = absurd (never (sym e))

  -- a promise follows another
  pub tell-after-stop : {U B : Type 0} {g : U → B} {Q : U → Type 0} (k : T → ℕ → Said (Got U)) {n : ℕ} {p : Place}
      → ReaderTells f P x a → a ≡ refused n p → ReaderTells g Q (onward x k) (refused n p)
  unfolding onward
  tell-after-stop k h q = let e = told-stop h q in tell-stop (rw e)

  pub tell-after : {U B : Type 0} {g : U → B} {Q : U → Type 0} (k : T → ℕ → Said (Got U)) {m : A} {d : ℕ} {b : Said (Got B)}
      → ReaderTells f P x a → a ≡ accepted (got m d)
      → ((t : T) → x ≡ accepted (got t d) → m ≡ f t → P t → ReaderTells g Q (k t d) b) → ReaderTells g Q (onward x k) b
  tell-after k h q on = let o = told-got h q in tell-next k o.is (on o.what o.is o.value o.held)

-- a promise on a part, told from where the part's whole starts
map-moved : {T A : Type 0} (f : T → A) (by : ℕ) (x : Said (Got T)) → relocated by (mapped f x) ≡ mapped f (relocated by x)
unfolding relocated mapped
map-moved f by (accepted (got t d)) = refl
map-moved f by (refused n p) = refl

module _ {T A : Type 0} {f : T → A} {P : T → Type 0} {x : Said (Got T)} {a : Said (Got A)} (by : ℕ) (h : ReaderTells f P x a) where
  pub tell-moved : ReaderTells f P (relocated by x) (relocated by a)
  tell-moved =
      record {
        answer-is = ap (λ (y : Said (Got A)). relocated by y) h.answer-is ∙ map-moved f by x;
        holds = λ t d q. h.holds t d (relocated-got by x q);
      }

module _ {T A : Type 0} {f : T → A} {P : T → Type 0} {x : Said (Got T)} {a : Said (Got A)} (by : ℕ) (h : ReaderTells f P x a) where
  pub tell-moved-stop : {U B : Type 0} {g : U → B} {Q : U → Type 0} (k : T → ℕ → Said (Got U)) {v : Refusal} (w : Refusal)
      → a ≡ refused_by w → v ≡ moved_on by w → ReaderTells g Q (onward (relocated by x) k) (refused_by v)
  tell-moved-stop k w e q =
      rw q (tell-after-stop k (tell-moved by h) (ap (λ (y : Said (Got A)). relocated by y) e ∙ sym (moved-said by w)))

  pub tell-moved-on : {U B : Type 0} {g : U → B} {Q : U → Type 0} (k : T → ℕ → Said (Got U)) {m : A} {d : ℕ} {b : Said (Got B)}
      → a ≡ accepted (got m d)
      → ((t : T) → x ≡ accepted (got t d) → m ≡ f t → P t → ReaderTells g Q (k t d) b) → ReaderTells g Q (onward (relocated by x) k) b
  tell-moved-on k q on =
      tell-after k (tell-moved by h) (relocated-on by q) (λ t e v g. on t (relocated-got by x e) v g)

-- no two answers are told of one outcome
pub told-unique : {T A : Type 0} {f : T → A} {P Q : T → Type 0} {x : Said (Got T)} {a b : Said (Got A)}
    → ReaderTells f P x a → ReaderTells f Q x b → a ≡ b
told-unique h k = h.answer-is ∙ sym k.answer-is

-- an answer that says only what the outcome is
module _ {T A X : Type 0} (f : T → A) {x : Said (Got X)} (k : X → ℕ → Said (Got T)) where
  pub map_first : {v w : Refusal} → x ≡ refused_by w → v ≡ w → refused_by v ≡ mapped f (onward x k)
  unfolding onward mapped
  map_first e q = rw (e, q)

  pub map_next : {v : X} {p : ℕ} {a : Said (Got A)} → x ≡ accepted (got v p) → a ≡ mapped f (k v p) → a ≡ mapped f (onward x k)
  unfolding onward
  map_next e h = rw e h

-- what a promise of progress gives where the answer is an acceptance
pub passed : {A : Type 0} (n at : ℕ) {a : Said (Got A)} {m : A} {d : ℕ} → Passed n at a → a ≡ accepted (got m d) → (at < d) × (d ≤ n)
unfolding Passed
passed n at h e = rw e at h

pub ended : {A : Type 0} (at : ℕ) {a : Said (Got A)} {m : A} {d : ℕ} → Ends at a → a ≡ accepted (got m d) → d ≡ at
unfolding Ends
ended at h e = rw e at h
