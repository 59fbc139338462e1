-- A policy's eight ranges. Assumes nothing.
use Rattle.std.specs.Prelude.{Some, None}
use mathlib.Core.Path.{◌≡◌, refl}
use mathlib.Core.Bool.{Bool, true, false}
use mathlib.Core.List.{List, [], ◌∷◌}
use Prim.Native.Nat.{ℕ, zero, suc, ◌+◌, ◌≤◌, ◌<◌}
use native.Mathlib.Omega.{arith}
use lib.ListN.{length, get_or, drop}
use lib.Dec.{ltb, leb}
use borrow.Author.Tests.{ltb-false, leb-true, lt-ltb}
use Rattle.refusal.specs.Pick.{pick}
use Rattle.refusal.specs.Sizes.{text_limit}
use Rattle.refusal.specs.Said.{accepted, refused, Said, offset, spot}
use Rattle.refusal.proofs.Following.{never, followed}
use Rattle.text.specs.Utf8.{up_to}
use Rattle.policy.specs.declared.Slot.{Slot}
use Rattle.policy.specs.Eight.{no_slot, first_bad, bad_row, SlotsFit, slot_of, eight, ranges_test, policy_test}
use Rattle.policy.specs.declared.Policy.{Policy}
use Rattle.text.specs.Whole.{whole_text}

-- ---- the first range that leaves n bytes
module _ (n : ℕ) (xs : List Slot) (i : ℕ) where
  pub bad-on : (z : Slot) → drop i xs ≡ z ∷ drop (i + 1) xs → leb (z.from + z.len) n ≡ true
      → first_bad n (drop i xs) ≡ suc (first_bad n (drop (i + 1) xs))
  unfolding first_bad
  bad-on z e q = rw (e, q)

  pub bad-here : (z : Slot) → drop i xs ≡ z ∷ drop (i + 1) xs → leb (z.from + z.len) n ≡ false → first_bad n (drop i xs) ≡ 0
  unfolding first_bad
  bad-here z e q = rw (e, q)

pub bad-none : (n : ℕ) (xs : List Slot) (i : ℕ) → first_bad n xs ≡ length xs → i < length xs
    → (get_or xs i no_slot).from + (get_or xs i no_slot).len ≤ n
unfolding first_bad
bad-none n [] i e h = absurd (omega arith)
bad-none n (x ∷ xs) i e h = by (leb (x.from + x.len) n) refl e i h (bad-none n xs)
  where
    by : (t : Bool) → leb (x.from + x.len) n ≡ t → pick t (suc (first_bad n xs)) 0 ≡ suc (length xs) → (i : ℕ) → i < suc (length xs)
        → ((i : ℕ) → first_bad n xs ≡ length xs → i < length xs → (get_or xs i no_slot).from + (get_or xs i no_slot).len ≤ n)
        → (get_or (x ∷ xs) i no_slot).from + (get_or (x ∷ xs) i no_slot).len ≤ n
    by true q e zero h ih = leb-true (x.from + x.len) n q
    by true q e (suc i) h ih = ih i (omega arith) (omega arith)
    by false q e i h ih = absurd (omega arith)

pub eight-next : (p : Policy) (k : ℕ) → k < 7 → drop k (eight p) ≡ slot_of p k ∷ drop (k + 1) (eight p)
unfolding eight
eight-next p zero h = refl
eight-next p (suc zero) h = refl
eight-next p (suc (suc zero)) h = refl
eight-next p (suc (suc (suc zero))) h = refl
eight-next p (suc (suc (suc (suc zero)))) h = refl
eight-next p (suc (suc (suc (suc (suc zero))))) h = refl
eight-next p (suc (suc (suc (suc (suc (suc zero)))))) h = refl
eight-next p (suc (suc (suc (suc (suc (suc (suc k))))))) h = absurd (omega arith)

eight-same : (p : Policy) (k : ℕ) → k < 7 → get_or (eight p) k no_slot ≡ slot_of p k
unfolding eight
eight-same p zero h = refl
eight-same p (suc zero) h = refl
eight-same p (suc (suc zero)) h = refl
eight-same p (suc (suc (suc zero))) h = refl
eight-same p (suc (suc (suc (suc zero)))) h = refl
eight-same p (suc (suc (suc (suc (suc zero))))) h = refl
eight-same p (suc (suc (suc (suc (suc (suc zero)))))) h = refl
eight-same p (suc (suc (suc (suc (suc (suc (suc k))))))) h = absurd (omega arith)

module _ (n : ℕ) (p : Policy) where
  pub bad-seven : leb (p.start + p.size) n ≡ false → first_bad n (drop 7 (eight p)) ≡ 0
  unfolding first_bad eight
  bad-seven e = rw e

  pub bad-eight : leb (p.start + p.size) n ≡ true → first_bad n (drop 7 (eight p)) ≡ 1
  unfolding first_bad eight
  bad-eight e = rw e

  pub all_fit : first_bad n (eight p) ≡ 8 → SlotsFit n p.rules
  all_fit e i h = rw (eight-same p i h) at (bad-none n (eight p) i (unfold eight in e) (unfold eight in omega arith))

  pub name-fits : first_bad n (eight p) ≡ 8 → p.start + p.size ≤ n
  name-fits e = unfold eight in bad-none n (eight p) 7 e (omega arith)

  bad-le : (xs : List Slot) → first_bad n xs ≤ length xs
  unfolding first_bad
  bad-le [] = omega arith
  bad-le (x ∷ xs) = by (leb (x.from + x.len) n) (bad-le xs)
    where
      by : (t : Bool) → first_bad n xs ≤ length xs → pick t (suc (first_bad n xs)) 0 ≤ suc (length xs)
      by true h = omega arith
      by false h = omega arith

  pub bad-most : first_bad n (eight p) ≤ 8
  bad-most = unfold eight in bad-le (eight p)

  -- ---- the row that the code finds
  pub row-here : (i : ℕ) → i < 8 → first_bad n (eight p) ≡ i + first_bad n (drop i (eight p)) → first_bad n (drop i (eight p)) ≡ 0
      → Some i ≡ bad_row n p
  unfolding bad_row
  row-here i h e z = let q : first_bad n (eight p) ≡ i = omega arith in rw (q, lt-ltb i 8 h)

  pub row-none : first_bad n (eight p) ≡ 8 → None ≡ bad_row n p
  unfolding bad_row
  row-none e = rw e

  -- ---- and what is said of it
  pub said-row : {i : ℕ} → bad_row n p ≡ Some i → ranges_test n p ≡ refused 15 (spot i)
  unfolding bad_row ranges_test
  said-row e = by (ltb (first_bad n (eight p)) 8) (first_bad n (eight p)) e
    where
      by : (t : Bool) (k : ℕ) {i : ℕ} → pick t (Some k) None ≡ Some i
          → ◌≡◌ {A = Said (Unit {0})} (pick t (refused 15 (spot k)) (accepted tt)) (refused 15 (spot i))
      by true k q = cc
      by false k q = cc

  pub said-none : bad_row n p ≡ None → ranges_test n p ≡ accepted tt
  unfolding bad_row ranges_test
  said-none e = by (ltb (first_bad n (eight p)) 8) (first_bad n (eight p)) e
    where
      by : (t : Bool) (k : ℕ) → pick t (Some k) None ≡ None
          → ◌≡◌ {A = Said (Unit {0})} (pick t (refused 15 (spot k)) (accepted tt)) (accepted tt)
      by true k q = cc
      by false k q = refl

pub record Tested (s : List ℕ) (p : Policy) : Type 0 where
  pub short : length s ≤ text_limit
  pub rules : SlotsFit (length s) p.rules
  pub name : p.start + p.size ≤ length s

whole-short : (s : List ℕ) → whole_text s ≡ accepted tt → length s ≤ text_limit
unfolding whole_text
whole-short s e = by (ltb text_limit (length s)) refl e
  where
    rest : Said (Unit {0})
    rest = pick (ltb (up_to s) (length s)) (refused 4 (offset (up_to s))) (accepted tt)

    by : (t : Bool) → ltb text_limit (length s) ≡ t → pick t (refused 14 (spot 0)) rest ≡ accepted tt → length s ≤ text_limit
    by true q e = absurd (never e)
    by false q e = ltb-false text_limit (length s) q

ranges-good : (n : ℕ) (p : Policy) → ranges_test n p ≡ accepted tt → first_bad n (eight p) ≡ 8
unfolding ranges_test
ranges-good n p e = by (ltb (first_bad n (eight p)) 8) refl e
  where
    by : (t : Bool) → ltb (first_bad n (eight p)) 8 ≡ t
        → ◌≡◌ {A = Said (Unit {0})} (pick t (refused 15 (spot (first_bad n (eight p)))) (accepted tt)) (accepted tt)
        → first_bad n (eight p) ≡ 8
    by true q e = absurd (never e)
    by false q e = omega (arith, ltb-false (first_bad n (eight p)) 8 q, bad-most n p)

pub tested : (s : List ℕ) (p : Policy) → policy_test s p ≡ accepted tt → Tested s p
unfolding policy_test
tested s p e =
    let f = followed (whole_text s) (λ ok. ranges_test (length s) p) e in
    let g = ranges-good (length s) p f.then in
    record { short = whole-short s f.first; rules = all_fit (length s) p g; name = name-fits (length s) p g }
