-- More room: what is answered with some room is answered with any more, but for 13, so that an answer says something of the input alone.
-- A law for each way in which outcomes are made. Assumes nothing.
use Prim.Native.Nat.{ℕ, zero, suc, ◌-◌, ◌/◌, ◌≤◌, ◌<◌}
use native.Mathlib.Nat.{le-div_iff_mul-le, div-mul-le_self, div-zero}
use native.Mathlib.Omega.{arith}
use mathlib.Core.Path.{◌≡◌, refl, sym, ◌∙◌, ap, subst}
use mathlib.Core.Bool.{Bool, true, false}
use mathlib.Core.List.{List, [], ◌∷◌, ◌++◌}
use lib.ListN.{length, drop}
use lib.Dec.{ltb}
use borrow.Author.Tests.{lt-ltb, ltb-true}
use Rattle.refusal.specs.Pick.{pick}
use Rattle.refusal.specs.Said.{Said, accepted, refused, relocated, moved_by, follow, Got, got, onward, spot, Place}
use Rattle.refusal.proofs.Following.{never, relocated-stop}
use Rattle.text.specs.Walk.{stop, go, walk}
use Rattle.table.specs.Table.{capacity_of}
use Rattle.table.specs.Entries.{entries_from}
use Rattle.table.specs.Walking.{turn_of, walk_from}

-- y is x, unless x is a refusal with a number that is spared
pub data Sure (spared : ℕ → Type 0) {T : Type 0} (x y : Said T) : Type 0 where
  same : x ≡ y → Sure spared x y
  spare : (n : ℕ) (p : Place) → spared n → x ≡ refused n p → Sure spared x y

-- every refusal; want of room
abbrev pub Any : ℕ → Type 0
Any n = Unit {0}

abbrev pub Full : ℕ → Type 0
Full n = n ≡ 13

module _ {S : ℕ → Type 0} {T : Type 0} where
  pub sure-same : (x : Said T) → Sure S x x
  sure-same x = same refl

  pub sure-pick : (b : Bool) (x x1 y y1 : Said T) → Sure S x x1 → Sure S y y1 → Sure S (pick b x y) (pick b x1 y1)
  sure-pick true x x1 y y1 p q = p
  sure-pick false x x1 y y1 p q = q

  -- told from where a part's whole starts
  pub sure-moved : (by : ℕ) {x y : Said T} → Sure S x y → Sure S (relocated by x) (relocated by y)
  sure-moved by (same e) = same (ap (λ (z : Said T). relocated by z) e)
  sure-moved by (spare n p s e) = spare n (moved_by by p) s (relocated-stop by e)

  -- whatever x accepts, y accepts the same
  pub accepts-too : {x y : Said T} → Sure S x y → (t : T) → x ≡ accepted t → y ≡ accepted t
  accepts-too (same q) t e = sym q ∙ e
  accepts-too (spare n p s q) t e = absurd (never (sym q ∙ e))

module _ {T : Type 0} where
  pub sure-accepts : (x y : Said T) → ((t : T) → x ≡ accepted t → y ≡ accepted t) → Sure Any x y
  sure-accepts (accepted t) y h = same (sym (h t refl))
  sure-accepts (refused n p) y h = spare n p tt refl

  -- a test for room
  pub sure-room : (n room room1 p : ℕ) (x x1 : Said T) → room ≤ room1 → Sure Full x x1
      → Sure Full (pick (ltb n room) x (refused 13 (spot p))) (pick (ltb n room1) x1 (refused 13 (spot p)))
  sure-room n room room1 p x x1 h s = by (ltb n room) refl where
    by : (b : Bool) → ltb n room ≡ b → Sure Full (pick b x (refused 13 (spot p))) (pick (ltb n room1) x1 (refused 13 (spot p)))
    by true q = let k : n < room1 = omega (arith, ltb-true n room q) in rw (lt-ltb n room1 k) s
    by false q = spare 13 (spot p) refl refl

-- one after another
module _ {S : ℕ → Type 0} {X T : Type 0} where
  pub sure-follow : (x x1 : Said X) (k k1 : X → Said T) → Sure S x x1 → ((v : X) → Sure S (k v) (k1 v))
      → Sure S (follow x k) (follow x1 k1)
  unfolding follow
  sure-follow x x1 k k1 (same e) h = subst (λ (z : Said X). Sure S (follow x k) (follow z k1)) e (by x) where
    by : (x : Said X) → Sure S (follow x k) (follow x k1)
    by (accepted v) = h v
    by (refused n p) = same refl
  sure-follow x x1 k k1 (spare n p s e) h = spare n p s (ap (λ (z : Said X). follow z k) e)

  pub sure-onward : (x x1 : Said (Got X)) (k k1 : X → ℕ → Said T) → Sure S x x1
      → ((v : X) (p : ℕ) → Sure S (k v p) (k1 v p)) → Sure S (onward x k) (onward x1 k1)
  unfolding onward
  sure-onward x x1 k k1 (same e) h = subst (λ (z : Said (Got X)). Sure S (onward x k) (onward z k1)) e (by x) where
    by : (x : Said (Got X)) → Sure S (onward x k) (onward x k1)
    by (accepted (got v p)) = h v p
    by (refused n p) = same refl
  sure-onward x x1 k k1 (spare n p s e) h = spare n p s (ap (λ (z : Said (Got X)). onward z k) e)

-- a walk
module _ {S : ℕ → Type 0} {T : Type 0} (step step1 : ℕ → T → Said (Got T)) (s : (i : ℕ) (t : T) → Sure S (step i t) (step1 i t)) where
  abbrev walked : (ℕ → T → Said (Got T)) → T → ℕ → ℕ → List ℕ → Said (Got T)
  walked f = walk (λ st i rest. turn_of i (f i st)) (λ st i. accepted (got st i))

  -- what is left after a step
  abbrev on : (ℕ → T → Said (Got T)) → ℕ → List ℕ → Said (Got T) → Said (Got T)
  on f at l y = elim (turn_of at y) [ stop r ↦ r | go st k ↦ walked f st (suc at) k l ]

  sure-walk : (t : T) (at k : ℕ) (l : List ℕ)
      → Sure S (walked step t at k l) (walked step1 t at k l)
  unfolding walk turn_of
  sure-walk t at k [] = same refl
  sure-walk t at (suc k) (x ∷ l) = sure-walk t (suc at) k l
  sure-walk t at zero (x ∷ l) = by (λ v k. sure-walk v (suc at) k l) (s at t) where
    by : ((v : T) (k : ℕ) → Sure S (walked step v (suc at) k l) (walked step1 v (suc at) k l))
        → Sure S (step at t) (step1 at t) → Sure S (on step at l (step at t)) (on step1 at l (step1 at t))
    by ih (same e) = subst (λ (y : Said (Got T)). Sure S (on step at l (step at t)) (on step1 at l y)) e (after (step at t)) where
      after : (y : Said (Got T)) → Sure S (on step at l y) (on step1 at l y)
      after (accepted (got v c)) = ih v (c - suc at)
      after (refused n p) = same refl
    by ih (spare n p q e) = spare n p q (ap (on step at l) e)

  pub sure-from : (b : List ℕ) (at : ℕ) (t : T) → Sure S (walk_from step b at t) (walk_from step1 b at t)
  unfolding walk_from
  sure-from b at t = sure-walk t at 0 (drop at b)

-- a run of entries
module _ {R : Type 0} (read : ℕ → Said (Got R)) (tn room room1 : ℕ) (h : room ≤ room1) where
  pub sure-entries : (n at : ℕ) (rows : List R) → Sure Full (entries_from read tn room n at rows) (entries_from read tn room1 n at rows)
  unfolding entries_from
  sure-entries zero at rows = sure-same _
  sure-entries (suc n) at rows =
      sure-onward (read at) (read at) _ _ (sure-same _)
      (λ row next. sure-room (length rows) room room1 tn _ _ h (sure-entries n next (rows ++ (row ∷ []))))

-- more cells take more rows
rows-up : (n m w : ℕ) → n ≤ m → n / w ≤ m / w
rows-up n m zero h = omega (arith, div-zero n)
rows-up n m (suc w) h = (le-div_iff_mul-le {k = suc w} (omega arith)).1 (omega (arith, div-mul-le_self n (suc w)))

pub capacity-up : (n m w limit : ℕ) → n ≤ m → capacity_of n w limit ≤ capacity_of m w limit
unfolding capacity_of
capacity-up n m w limit h = omega (arith, rows-up n m w h)
