-- A policy as the reader gave it lies in its text: with that text it is never refused. Assumes nothing.
use Prim.Native.Nat.{ℕ, zero, suc, ◌+◌, ◌≤◌}
use native.Mathlib.Omega.{arith}
use mathlib.Core.Path.{◌≡◌, refl, ap}
use mathlib.Core.Bool.{true}
use mathlib.Core.List.{List, [], ◌∷◌, ◌++◌}
use lib.ListN.{length, set, get_or, replicate, length-append}
use lib.Dec.{leb}
use borrow.Author.Tests.{le-leb}
use Rattle.refusal.specs.Said.{accepted, follow}
use Rattle.refusal.proofs.Following.{never, one_value, followed}
use Rattle.text.specs.Whole.{whole_text}
use Rattle.text.specs.Piece.{Piece}
use Rattle.policy.specs.Piece.{lines_of}
use Rattle.policy.specs.Directive.{Directive, blank, wrong, called, preset, plain, listed, policy_directive, fault}
use Rattle.policy.specs.Reader.{slot, stance_of, zero_policy, obey, run, read_with, read_policy}
use Rattle.policy.specs.Eight.{no_slot, slot_of, eight, first_bad, ranges_test, policy_test, SlotFits}
use Rattle.policy.specs.declared.Slot.{Slot}
use Rattle.policy.specs.declared.Policy.{Policy}
use Rattle.policy.proofs.Lines.{EachPiece, more}
use Rattle.policy.proofs.Meaning.{PartOf, Within, w-called, w-listed, directive-in, lines-in}

-- every rule's range, and the name's, within n bytes
record FitsIn (n : ℕ) (v : Policy) : Type 0 where
  rules : (i : ℕ) → SlotFits n (slot_of v i)
  name : v.start + v.size ≤ n

part-fits : (s : List ℕ) (p : Piece) → PartOf s p → p.at + length p.bytes ≤ length s
part-fits s p q =
    omega (
      arith,
      q.place,
      ap length q.same,
      length-append q.fore (p.bytes ++ q.aft),
      length-append p.bytes q.aft,
    )

set-fits : (n : ℕ) (l : List Slot) (d : ℕ) (x : Slot) → SlotFits n x → ((i : ℕ) → SlotFits n (get_or l i no_slot)) → (i : ℕ)
    → SlotFits n (get_or (set l d x) i no_slot)
set-fits n [] d x f h i = h i
set-fits n (y ∷ l) zero x f h zero = f
set-fits n (y ∷ l) zero x f h (suc i) = h (suc i)
set-fits n (y ∷ l) (suc d) x f h zero = h zero
set-fits n (y ∷ l) (suc d) x f h (suc i) = set-fits n l d x f (λ j. h (suc j)) i

module _ (s : List ℕ) where
  obey-fits : (d : Directive) (v : Policy) → Within s d → FitsIn (length s) v → FitsIn (length s) (obey d v)
  unfolding obey
  obey-fits blank v w f = f
  obey-fits (wrong k) v w f = f
  obey-fits (called p) v (w-called q) f = record { rules = f.rules; name = part-fits s p q }
  obey-fits (preset t) v w f = record { rules = f.rules; name = f.name }
  obey-fits (plain t d) v w f =
      record { rules = set-fits (length s) v.rules d (slot (stance_of t) 0 0) (omega arith) f.rules; name = f.name }
  obey-fits (listed t d p) v (w-listed q) f =
      record {
        rules = set-fits (length s) v.rules d (slot (stance_of t) p.at (length p.bytes)) (part-fits s p q) f.rules;
        name = f.name;
      }

  run_fits : (n : ℕ) (v w : Policy) (ps : List Piece) → EachPiece (PartOf s) ps → FitsIn (length s) v → run obey n v ps ≡ accepted w
      → FitsIn (length s) w
  unfolding run
  run_fits n v w [] q f e = let k : v ≡ w = one_value e in rw (← k) f
  run_fits n v w (p ∷ ps) (more q qs) f e =
      by (fault (policy_directive p)) refl (λ r. run_fits (n + 1) (obey (policy_directive p) v) w ps qs
      (obey-fits (policy_directive p) v (directive-in s p q) f) r)
    where
      by : (k : ℕ) → fault (policy_directive p) ≡ k
          → (run obey (n + 1) (obey (policy_directive p) v) ps ≡ accepted w → FitsIn (length s) w) → FitsIn (length s) w
      by zero k ih = ih (rw (k, run) at e)
      by (suc m) k ih = absurd (never (rw (k, run) at e))

  zero-fits : FitsIn (length s) zero_policy
  unfolding zero_policy
  zero-fits = record { rules = λ i. none-fits 7 i; name = omega arith }
    where
      none-fits : (k i : ℕ) → SlotFits (length s) (get_or (replicate k no_slot) i no_slot)
      none-fits zero i = omega arith
      none-fits (suc k) zero = omega arith
      none-fits (suc k) (suc i) = none-fits k i

-- all eight fit, so none is bad
none-bad : (n : ℕ) (p : Policy) → FitsIn n p → ranges_test n p ≡ accepted tt
unfolding ranges_test first_bad eight
none-bad n p f =
    let at : (i : ℕ) → leb ((slot_of p i).from + (slot_of p i).len) n
    ≡ true = λ i. le-leb ((slot_of p i).from + (slot_of p i).len) n (f.rules i) in
    rw (at 0, at 1, at 2, at 3, at 4, at 5, at 6, le-leb (p.start + p.size) n f.name)

pub read-tested : (s : List ℕ) (p : Policy) → read_policy s ≡ accepted p → policy_test s p ≡ accepted tt
unfolding read_policy read_with policy_test follow
read-tested s p e =
    let q = followed (whole_text s) (λ ok. run obey 1 zero_policy (lines_of s)) e in
    rw q.first (none-bad (length s) p (run_fits s 1 zero_policy p (lines_of s) (lines-in s) (zero-fits s) q.then))
