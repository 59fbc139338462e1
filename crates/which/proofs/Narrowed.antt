-- A u32, a length with its bytes, and a name: which refusals are theirs, and which are handed on. Assumes nothing.
use Prim.Native.Nat.{ℕ, ◌+◌, ◌-◌, ◌^◌, ◌≤◌}
use native.Mathlib.Omega.{arith}
use mathlib.Core.Path.{◌≡◌, refl, sym, ◌∙◌}
use mathlib.Core.Bool.{Bool, true, false}
use mathlib.Core.Logic.{◌↔◌}
use mathlib.Core.List.{List}
use borrow.Author.Tests.{lt-leb, leb-false}
use lib.Dec.{leb, ltb, eqb}
use lib.ListN.{length}
use Rattle.refusal.specs.Pick.{pick}
use Rattle.refusal.specs.Said.{Said, accepted, refused, Got, got, onward, offset, kind_at, Place}
use Rattle.refusal.specs.declared.Part.{Part}
use Rattle.refusal.proofs.Following.{never}
use Rattle.text.specs.Utf8.{up_to}
use Rattle.leb.specs.Reads.{part, part_bytes, narrowed, uleb_at, u32_at, taken_at, counted_at, checked, name_at}
use Rattle.leb.proofs.Conform.{u64-read, u64-only}
use Rattle.which.specs.Claims.{Above}
use Rattle.which.proofs.Telling.{one_number, one_place}

-- a refusal that what follows never gives is that of the first read
module _ {X Y : Type 0} (f : X → ℕ → Said Y) (n : ℕ) (p : Place) (mine : (v : X) (d : ℕ) → f v d ≡ refused n p → ⊥) where
  handed : (x : Said (Got X)) → onward x f ≡ refused n p → x ≡ refused n p
  unfolding onward
  handed (accepted (got v d)) e = absurd (mine v d e)
  handed (refused m q) e = let a = one_number e in let b = one_place e in rw (a, b)

  hands_on : (x : Said (Got X)) → x ≡ refused n p → onward x f ≡ refused n p
  unfolding onward
  hands_on x e = rw e

  pub passes : (x : Said (Got X)) → (onward x f ≡ refused n p) ↔ (x ≡ refused n p)
  passes x = (handed x, hands_on x)

-- what each of the reads that follow refuses with
narrowed-only : (v d n : ℕ) (p : Place) → narrowed v d ≡ refused n p → (n ≡ 19) × (2 ^ 32 ≤ v) × (p ≡ offset d)
unfolding narrowed
narrowed-only v d n p e = by (leb v 4294967295) refl e where
  by : (t : Bool) → leb v 4294967295 ≡ t → pick t (accepted (got v d)) (refused 19 (offset d)) ≡ refused n p
      → (n ≡ 19) × (2 ^ 32 ≤ v) × (p ≡ offset d)
  by true t f = absurd (never (sym f))
  by false t f = (sym (one_number f), omega (arith, leb-false v 4294967295 t), sym (one_place f))

taken-only : (s : List ℕ) (at k n : ℕ) (p : Place) → taken_at s at k ≡ refused n p → n ≤ 5
unfolding taken_at
taken-only s at k n p e = by (ltb (length s) at) (ltb (18446744073709551615 - at) k) (leb (at + k) (length s)) e where
  by : (t u w : Bool)
      → pick t (refused 1 (offset at))
      (pick u (refused 5 (kind_at at at)) (pick w (accepted (got (part at k) (at + k))) (refused 1 (offset at)))) ≡ refused n p
      → n ≤ 5
  by true u w f = omega (arith, one_number f)
  by false true w f = omega (arith, one_number f)
  by false false true f = absurd (never (sym f))
  by false false false f = omega (arith, one_number f)

checked-only : (s : List ℕ) (q : Part) (d n : ℕ) (p : Place) → checked s q d ≡ refused n p → n ≡ 4
unfolding checked
checked-only s q d n p e = by (eqb (up_to (part_bytes s q)) q.len) e where
  by : (t : Bool) → pick t (accepted (got q d)) (refused 4 (offset q.from)) ≡ refused n p → n ≡ 4
  by true f = absurd (never (sym f))
  by false f = sym (one_number f)

module _ (s : List ℕ) (at : ℕ) where
  pub u32-passes : (n : ℕ) (q : Place) → (n ≡ 19 → ⊥) → (u32_at s at ≡ refused n q) ↔ (uleb_at s at ≡ refused n q)
  unfolding u32_at
  u32-passes n q other = passes narrowed n q (λ v d e. other (narrowed-only v d n q e).0) (uleb_at s at)

  pub counted-passes : (n : ℕ) (q : Place) → 17 ≤ n → (counted_at s at ≡ refused n q) ↔ (u32_at s at ≡ refused n q)
  unfolding counted_at
  counted-passes n q h = passes (λ k next. taken_at s next k) n q (λ k d e. omega (arith, h, taken-only s d k n q e)) (u32_at s at)

  pub name-passes : (n : ℕ) (q : Place) → 17 ≤ n → (name_at s at ≡ refused n q) ↔ (u32_at s at ≡ refused n q)
  unfolding name_at
  name-passes n q h =
      let name = passes (checked s) n q (λ p d e. omega (arith, h, checked-only s p d n q e)) (counted_at s at) in
      let size = counted-passes n q h in
      (λ e. size.0 (name.0 e), λ e. name.1 (size.1 e))

-- 19
module _ (s : List ℕ) (at p : ℕ) where
  pub above-out : (uleb_at s at ≡ refused 19 (offset p) → ⊥) → u32_at s at ≡ refused 19 (offset p) → Above s at p
  unfolding u32_at onward
  above-out other e = by (uleb_at s at) refl e where
    by : (x : Said (Got ℕ)) → uleb_at s at ≡ x → onward x narrowed ≡ refused 19 (offset p) → Above s at p
    by (accepted (got v d)) q f =
        let u = u64-only s at v d q in
        let n = narrowed-only v d 19 (offset p) f in
        let k : p ≡ d = let q = n.2 in cc in
        record { value = v; count = u.0; number = u.1; large = n.1; after = k ∙ u.2 }
    by (refused m q) r f = absurd (other (r ∙ f))

  pub above_in : Above s at p → u32_at s at ≡ refused 19 (offset p)
  unfolding u32_at onward narrowed
  above_in a =
      let big : leb a.value 4294967295 ≡ false = lt-leb a.value 4294967295 (omega (arith, a.large)) in
      rw (u64-read s at a.value a.count a.number, big, a.after)
