-- The claims of specs/Claims. Assumes nothing.
use Prim.Native.Nat.{ℕ, ◌+◌, ◌≤◌}
use native.Mathlib.Omega.{arith}
use mathlib.Core.Path.{◌≡◌, refl, sym, ◌∙◌}
use mathlib.Core.Bool.{Bool, true, false}
use mathlib.Core.Logic.{◌⊎◌, inl, inr, ◌↔◌}
use mathlib.Core.List.{List}
use borrow.Author.Tests.{eqb-true, eqb-false}
use lib.Dec.{eqb}
use lib.ListN.{length, drop}
use Rattle.refusal.specs.Said.{refused, offset, Place}
use Rattle.refusal.proofs.Following.{never}
use Rattle.leb.specs.Groups.{u_n, s_n}
use Rattle.leb.specs.Reads.{uleb_at, u32_at, sleb_at}
use Rattle.leb.proofs.Conform.{u64-read}
use Rattle.which.specs.Claims.{GoOn, Eleventh, Tenth, Missing, WhichWay, Excluding}
use Rattle.which.proofs.Sorting.{Comes, Fits, Exceeds, unsigned-comes, Any, None, signed-comes}
use Rattle.which.proofs.Telling.{long-told, large-told, short-told, told-only}
use Rattle.which.proofs.Narrowed.{u32-passes, counted-passes, name-passes, above-out, above_in}

module _ (s : List ℕ) (at p : ℕ) where
  unsigned : Comes Fits Exceeds 9 (drop at s) (u_n 64 (drop at s))
  unsigned = unsigned-comes 9 (drop at s)

  fit : (n : ℕ) → Fits n → Exceeds n → ⊥
  fit n a b = omega (arith, a, b)

  eleventh : (uleb_at s at ≡ refused 17 (offset p)) ↔ ((p ≡ at) × Eleventh (drop at s))
  unfolding uleb_at
  eleventh =
      let t = long-told fit at p (drop at s) unsigned in (
        λ e. let h = t.0 e in (h.0, record { there = h.1; going = h.2; fits = h.3 }),
        λ h. t.1 (h.0, h.1.there, h.1.going, h.1.fits),
      )

  tenth : (uleb_at s at ≡ refused 18 (offset p)) ↔ ((p ≡ at) × Tenth (drop at s))
  unfolding uleb_at
  tenth =
      let t = large-told fit at p (drop at s) unsigned in (
        λ e. let h = t.0 e in (h.0, record { there = h.1; going = h.2; large = h.3 }),
        λ h. t.1 (h.0, h.1.there, h.1.going, h.1.large),
      )

  missing : (uleb_at s at ≡ refused 1 (offset p)) ↔ ((p ≡ at + length (drop at s)) × Missing (drop at s))
  unfolding uleb_at
  missing =
      let t = short-told fit at p (drop at s) unsigned in (
        λ e. let h = t.0 e in (h.0, record { few = h.1; going = h.2; fits = h.3 }),
        λ h. t.1 (h.0, h.1.few, h.1.going, h.1.fits),
      )

  u64-refusals : (n : ℕ) (q : Place) → uleb_at s at ≡ refused n q → (n ≡ 1) ⊎ ((n ≡ 17) ⊎ (n ≡ 18))
  unfolding uleb_at
  u64-refusals n q e = by (told-only fit at p (drop at s) n q unsigned e) where
    by : {M : Type 0} → (n ≡ 1) ⊎ ((n ≡ 17) ⊎ ((n ≡ 18) × M)) → (n ≡ 1) ⊎ ((n ≡ 17) ⊎ (n ≡ 18))
    by (inl q) = inl q
    by (inr (inl q)) = inr (inl q)
    by (inr (inr q)) = inr (inr q.0)

  -- an unsigned number is never 19
  not-above : uleb_at s at ≡ refused 19 (offset p) → ⊥
  not-above e = by 19 refl (u64-refusals 19 (offset p) e) where
    by : (n : ℕ) → n ≡ 19 → (n ≡ 1) ⊎ ((n ≡ 17) ⊎ (n ≡ 18)) → ⊥
    by n h (inl q) = omega (arith, h, q)
    by n h (inr (inl q)) = omega (arith, h, q)
    by n h (inr (inr q)) = omega (arith, h, q)

  one_of_three : (n : ℕ) (q : Place) → u32_at s at ≡ refused n q → (n ≡ 1) ⊎ ((n ≡ 17) ⊎ ((n ≡ 18) ⊎ (n ≡ 19)))
  one_of_three n q e = by (eqb n 19) refl where
    other : (n ≡ 1) ⊎ ((n ≡ 17) ⊎ (n ≡ 18)) → (n ≡ 1) ⊎ ((n ≡ 17) ⊎ ((n ≡ 18) ⊎ (n ≡ 19)))
    other (inl q) = inl q
    other (inr (inl q)) = inr (inl q)
    other (inr (inr q)) = inr (inr (inl q))

    by : (t : Bool) → eqb n 19 ≡ t → (n ≡ 1) ⊎ ((n ≡ 17) ⊎ ((n ≡ 18) ⊎ (n ≡ 19)))
    by true t = inr (inr (inr (eqb-true n 19 t)))
    by false t = other (u64-refusals n q ((u32-passes s at n q (eqb-false n 19 t)).0 e))

  signed : Comes Any None 9 (drop at s) (s_n 64 (drop at s))
  signed = signed-comes 9 (drop at s)

  any : (n : ℕ) → Any n → None n → ⊥
  any n a b = b

  signed-eleventh : (sleb_at s at ≡ refused 17 (offset p)) ↔ ((p ≡ at) × (11 ≤ length (drop at s)) × GoOn 10 (drop at s))
  unfolding sleb_at
  signed-eleventh =
      let t = long-told any at p (drop at s) signed in
      (λ e. let h = t.0 e in (h.0, h.1, h.2), λ h. t.1 (h.0, h.1, h.2, tt))

  signed-missing : (sleb_at s at ≡ refused 1 (offset p))
      ↔ ((p ≡ at + length (drop at s)) × (length (drop at s) ≤ 10) × GoOn (length (drop at s)) (drop at s))
  unfolding sleb_at
  signed-missing =
      let t = short-told any at p (drop at s) signed in
      (λ e. let h = t.0 e in (h.0, h.1, h.2), λ h. t.1 (h.0, h.1, h.2, tt))

  s64-refusals : (n : ℕ) (q : Place) → sleb_at s at ≡ refused n q → (n ≡ 1) ⊎ (n ≡ 17)
  unfolding sleb_at
  s64-refusals n q e = by (told-only any at p (drop at s) n q signed e) where
    by : (n ≡ 1) ⊎ ((n ≡ 17) ⊎ ((n ≡ 18) × ⊥)) → (n ≡ 1) ⊎ (n ≡ 17)
    by (inl q) = inl q
    by (inr (inl q)) = inr q
    by (inr (inr q)) = absurd q.1

  pub which-way : WhichWay s at p
  which-way = record {
    eleventh = eleventh;
    tenth = tenth;
    missing = missing;
    u64-refusals = u64-refusals;
    above = (above-out s at p not-above, above_in s at p);
    u32-passes = u32-passes s at;
    one_of_three = one_of_three;
    counted-passes = counted-passes s at;
    name-passes = name-passes s at;
    signed-eleventh = signed-eleventh;
    signed-missing = signed-missing;
    s64-refusals = s64-refusals;
  }

-- l itself is read at 0
pub all_apart : (l : List ℕ) → Excluding l
all_apart l = record {
  eleventh-tenth = λ a b. omega (arith, a.fits, b.large);
  eleventh-good = λ v k a u. never (sym ((eleventh l 0 0).1 (refl, a)) ∙ u64-read l 0 v k u);
  tenth-good = λ v k a u. never (sym ((tenth l 0 0).1 (refl, a)) ∙ u64-read l 0 v k u);
}
