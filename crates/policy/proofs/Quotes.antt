-- Quotes at the front: how many, by the first byte that is none. Assumes nothing.
use mathlib.Core.Path.{◌≡◌, refl}
use mathlib.Core.Bool.{Bool, true, false, not}
use mathlib.Core.List.{List, [], ◌∷◌}
use Prim.Native.Nat.{ℕ, suc, ◌+◌, ◌≤◌}
use native.Mathlib.Omega.{arith}
use lib.Dec.{eqb, ltb}
use lib.ListN.{length}
use borrow.Author.Tests.{ltb-false}
use Rattle.std.specs.Prelude.{Option}
use Rattle.std.specs.List.{position, position_or_len}
use Rattle.std.specs.Option.{unwrap_or}
use Rattle.std.proofs.Common.{cond}
use Rattle.std.proofs.lemmas.List.Recursion.{is_position_or_len}
use Rattle.refusal.specs.Pick.{pick}
use Rattle.policy.specs.Piece.{quotes}

pub quotes-le : (s : List ℕ) → quotes s ≤ length s
unfolding quotes
quotes-le [] = omega arith
quotes-le (x ∷ s) = by (eqb x 34) (quotes-le s)
  where
    by : (t : Bool) → quotes s ≤ length s → pick t (suc (quotes s)) 0 ≤ suc (length s)
    by true h = omega arith
    by false h = omega arith

-- by the first byte that is no quote
quoted : (s : List ℕ) → quotes s ≡ position_or_len (λ x. not (eqb x 34)) s
unfolding quotes
quoted = is_position_or_len quotes (λ x. not (eqb x 34)) refl (λ x s. by (eqb x 34) (quotes s))
  where
    by : (t : Bool) (k : ℕ) → pick t (suc k) 0 ≡ cond (not t) 0 (1 + k)
    by true k = omega arith
    by false k = refl

pub quotes-found : (s : List ℕ) {r : Option ℕ} → r ≡ position (λ x. not (eqb x 34)) s → unwrap_or r (length s) ≡ quotes s
quotes-found s {r} e = rw e (by (quotes s) (ltb (quotes s) (length s)) refl (quotes-le s) (quoted s))
  where
    by : (k : ℕ) (t : Bool) → ltb k (length s) ≡ t → k ≤ length s → k ≡ position_or_len (λ x. not (eqb x 34)) s
        → unwrap_or (position (λ x. not (eqb x 34)) s) (length s) ≡ k
    by k true q l z = rw (← z, q)
    by k false q l z = rw (← z, q) (omega (arith, ltb-false k (length s) q))
