-- The laws of a reader's loop: what is left answers as the whole does. Assumes nothing.
use mathlib.Core.Path.{◌≡◌, ◌∙◌}
use mathlib.Core.List.{List, [], ◌∷◌}
use Prim.Native.Nat.{ℕ, zero, suc, ◌+◌, ◌≤◌, ◌<◌}
use native.Mathlib.Nat.{add-zero, suc-add, add-suc, le_of_suc-le-suc, not-suc-le-zero}
use native.Mathlib.Omega.{arith}
use lib.ListN.{length, drop, length-drop}
use lib.Seq.{drop-drop}
use Rattle.text.specs.Walk.{Turn, stop, go, walk}
use Rattle.text.proofs.Laws.{left-next, left-none}

module _ {S R : Type 0} (f : S → ℕ → List ℕ → Turn S R) (done : S → ℕ → R) where
  pub walk-skip : (st : S) (at k : ℕ) (s : List ℕ) → k ≤ length s → walk f done st at k s ≡ walk f done st (at + k) 0 (drop k s)
  unfolding walk
  walk-skip st at zero s h = rw add-zero
  walk-skip st at (suc k) [] h = absurd (not-suc-le-zero h)
  walk-skip st at (suc k) (x ∷ s) h = walk-skip st (suc at) k s (le_of_suc-le-suc h) ∙ rw (suc-add at k, add-suc at k)

  -- the step goes on
  pub walk-go : (s : List ℕ) (st st' : S) (i k : ℕ) → f st i (drop i s) ≡ go st' k → i + suc k ≤ length s
      → walk f done st i 0 (drop i s) ≡ walk f done st' (i + suc k) 0 (drop (i + suc k) s)
  unfolding walk
  walk-go s st st' i k e h =
      let n = left-next s i (omega arith) in
      let e' = rw n at e in
      let p : i + 1 + k ≡ i + suc k = omega arith in
      let fits : k ≤ length (drop (i + 1) s) = simp length-drop (omega arith) in
      rw n (rw (e', walk) (walk-skip st' (suc i) k (drop (i + 1) s) fits ∙ rw (drop-drop, p, suc-add i k, add-suc i k)))

  -- the step ends it
  pub walk-stop : (s : List ℕ) (st : S) (i : ℕ) (r : R) → i < length s → f st i (drop i s) ≡ stop r → walk f done st i 0 (drop i s) ≡ r
  unfolding walk
  walk-stop s st i r h e =
      let n = left-next s i h in
      let e' = rw n at e in
      rw n (rw (e', walk))

  -- nothing is left
  pub walk-done : (s : List ℕ) (st : S) (i : ℕ) → length s ≤ i → walk f done st i 0 (drop i s) ≡ done st i
  unfolding walk
  walk-done s st i h = rw (left-none s i h)
