-- The rows of a table that is handed in, tested and counted one after another. Assumes nothing.
use Rattle.std.specs.Prelude.{Option, Some}
use Rattle.std.specs.Fn.{Called}
use Rattle.std.specs.Iterator.{FindsPosition}
use Rattle.std.specs.List.{position_from, range_with_len}
use Rattle.std.proofs.iter.Yields.{nat_range_steps}
use Rattle.std.proofs.lemmas.Iterator.{YieldsList-from_range}
use Rattle.std.proofs.lemmas.Iterator.Adapters.{position_from-zero}
use Rattle.std.proofs.lemmas.Iterator.Search.{position_from_yields_List}
use Rattle.std.specs.declared.ops.Range.{Range}
use denote.Param.Members.{Mut}
use mathlib.Core.Path.{◌≡◌, refl, ◌∙◌, ap}
use mathlib.Core.Bool.{Bool, true, false, cond}
use Prim.Native.Nat.{ℕ, zero, suc, ◌+◌, ◌-◌, ◌≤◌, ◌<◌}
use lib.Dec.{ltb}
use native.Mathlib.Nat.{sub-zero}
use native.Mathlib.Omega.{arith}
use borrow.Author.Tests.{le-ltb}
use Rattle.refusal.specs.Pick.{pick}
use Rattle.refusal.specs.Said.{accepted, refused, follow, spot, Place}
use Rattle.refusal.proofs.Following.{follow-stops, follow-goes}
use Rattle.table.specs.Testing.{bad, first_from, tested, counted, row_refused, count_from}

one_left : (i n : ℕ) → i < n → n - i ≡ suc (n - (i + 1))
one_left i n h = omega arith

none_left : (i n : ℕ) → n ≤ i → n - i ≡ 0
none_left i n h = omega arith

module _ (test : ℕ → Bool) (i n : ℕ) where
  pub count-hit : i < n → test i ≡ true → count_from test i (n - i) ≡ suc (count_from test (i + 1) (n - (i + 1)))
  unfolding count_from
  count-hit h e = ap (λ (k : ℕ). count_from test i k) (one_left i n h) ∙ rw e

  pub count-miss : i < n → test i ≡ false → count_from test i (n - i) ≡ count_from test (i + 1) (n - (i + 1))
  unfolding count_from
  count-miss h e = ap (λ (k : ℕ). count_from test i k) (one_left i n h) ∙ rw e

  pub count-end : n ≤ i → count_from test i (n - i) ≡ 0
  unfolding count_from
  count-end h = rw (none_left i n h)

-- a stated count that is not above the capacity
pub tested-rows : (room n : ℕ) (test : ℕ → Bool) → n ≤ room → tested room n test ≡ first_from test 0 n
unfolding tested
tested-rows room n test h = rw (le-ltb room n h)

-- a search for a bad row among k, from row i on
found : (test : ℕ → Bool) (i k : ℕ) → row_refused (position_from test i (range_with_len i k)) ≡ first_from test i k
unfolding row_refused first_from
found test i zero = refl
found test i (suc k) = by (found test (i + 1) k) (test i)
  where
    by : row_refused (position_from test (i + 1) (range_with_len (i + 1) k)) ≡ first_from test (i + 1) k → (t : Bool)
        → row_refused (cond t (Some i) (position_from test (i + 1) (range_with_len (i + 1) k)))
        ≡ pick t (refused 15 (spot i)) (first_from test (i + 1) k)
    by e true = refl
    by e false = e

-- ---- a table that is handed in, n of its rows stated and room for so many: its count is tested, and then a bad row is searched for
module _ (room n : ℕ) (good : ℕ → Bool) where
  one_after_another : follow (counted room n) (λ u. first_from (bad good) 0 n) ≡ tested room n (bad good)
  unfolding follow counted tested
  one_after_another = by (ltb room n)
    where
      by : (t : Bool) → follow (pick t (refused 15 (spot room)) (accepted (tt {0}))) (λ u. first_from (bad good) 0 n)
          ≡ pick t (refused 15 (spot room)) (first_from (bad good) 0 n)
      by true = refl
      by false = refl

  pub count-refused : {m : ℕ} {p : Place} → counted room n ≡ refused m p → refused m p ≡ tested room n (bad good)
  count-refused e = follow-stops _ e ∙ one_after_another

  -- of what the search answered, and of a closure that says of each row whether it is bad
  pub rows-searched : {F : Type 0} {g : Mut F (ℕ × Unit {0}) Bool} {f : F} {rest : Range ℕ} {u : Unit {0}} {r : Option ℕ}
      → counted room n ≡ accepted u → FindsPosition nat_range_steps g (record { start = 0; end = n }) f r rest
      → ((i : ℕ) (b : Bool) (q : F) → Called g f (i, tt) b q → (q ≡ f) × (b ≡ bad good i)) → row_refused r ≡ tested room n (bad good)
  rows-searched {r = r} e ran told =
      follow-goes _ e
      (ap row_refused
      (position_from_yields_List (bad good) _ _ r ran (YieldsList-from_range 0 n n refl (sub-zero n)) told
      ∙ position_from-zero (bad good) (range_with_len 0 n))
      ∙ found (bad good) 0 n)
      ∙ one_after_another
