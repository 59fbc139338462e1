-- The header: what is accepted is exactly the magic with a version that is not zero. Assumes nothing.
use Prim.Native.Nat.{ℕ, ◌^◌, ◌≤◌, ◌<◌}
use native.Mathlib.Omega.{arith}
use mathlib.Core.Path.{◌≡◌, refl, sym, ◌∙◌, subst}
use mathlib.Core.Bool.{Bool, true, false}
use mathlib.Core.List.{List, [], ◌∷◌}
use lib.ListN.{length, take}
use lib.Dec.{leb, eqb}
use borrow.Author.Tests.{le-ltb, le-leb, leb-true, eqb-false, ne_eqb}
use Rattle.refusal.specs.Pick.{pick}
use Rattle.refusal.specs.Said.{accepted, refused, got, onward, offset}
use Rattle.refusal.specs.declared.Part.{Part}
use Rattle.refusal.proofs.Following.{never, read-on}
use Rattle.text.specs.Find.{same}
use Rattle.text.proofs.FindLaws.{same-is, same_self}
use Rattle.leb.specs.Reads.{part_bytes, taken_at, fixed_at}
use Rattle.leb.proofs.Bounds.{take_in}
use Rattle.wasm.specs.Module.{header_at, magic}
use Rattle.conform.specs.Claims.{Bytes}
use Rattle.conform.specs.Port.{version_of, AnyHeader}

-- such a header is accepted
pub header-reads : (b : List ℕ) → AnyHeader b → header_at b ≡ accepted (got (version_of b) 8)
unfolding header_at onward taken_at fixed_at magic
header-reads b h =
    let m : same (0x00 ∷ 0x61 ∷ 0x73 ∷ 0x6D ∷ []) (take 4 b) ≡ true = rw h.starts (same_self (0x00 ∷ 0x61 ∷ 0x73 ∷ 0x6D ∷ [])) in
    simp (
      le-ltb (length b) 0 (omega arith),
      le-leb 4 (length b) (omega (arith, h.long)),
      m,
      le-leb 8 (length b) h.long,
      ne_eqb (version_of b) 0 (λ e. omega (arith, h.some)),
    )

-- what was read of a header
pub record HeaderOnly (b : List ℕ) (v d : ℕ) : Type 0 where
  pub header : AnyHeader b
  pub version-is : v ≡ version_of b
  pub next-is : d ≡ 8

fixed-only : (b : List ℕ) (v d : ℕ) → fixed_at b 4 ≡ accepted (got v d) → (8 ≤ length b) × (v ≡ version_of b) × (d ≡ 8)
unfolding fixed_at
fixed-only b v d e = by (leb 8 (length b)) refl e where
  by : (t : Bool) → leb 8 (length b) ≡ t → pick t (accepted (got (version_of b) 8)) (refused 1 (offset 4)) ≡ accepted (got v d)
      → (8 ≤ length b) × (v ≡ version_of b) × (d ≡ 8)
  by true t f = (leb-true 8 (length b) t, cc, cc)
  by false t f = absurd (never f)

-- and no other is
pub header-only : (b : List ℕ) (v d : ℕ) → header_at b ≡ accepted (got v d) → HeaderOnly b v d
unfolding header_at magic
header-only b v d e =
    let x = read-on (taken_at b 0 4) _ e in
    let t = take_in b 0 4 x.what x.next x.first in
    let f : part_bytes b x.what ≡ take 4 b = rw (t.start, t.size) in
    by x.next x.what f (omega (arith, t.next)) (same (0x00 ∷ 0x61 ∷ 0x73 ∷ 0x6D ∷ []) (part_bytes b x.what)) refl x.then
  where
    nonzero : (w c : ℕ) → (8 ≤ length b) × (w ≡ version_of b) × (c ≡ 8) → take 4 b ≡ 0x00 ∷ 0x61 ∷ 0x73 ∷ 0x6D ∷ []
        → (t : Bool) → eqb w 0 ≡ t
        → pick t (refused 2 (offset 4)) (accepted (got w c)) ≡ accepted (got v d) → HeaderOnly b v d
    nonzero w c k s true t f = absurd (never f)
    nonzero w c k s false t f =
        let x : w ≡ v = cc in
        let y : c ≡ d = cc in
        let n : w ≡ 0 → ⊥ = eqb-false w 0 t in
        record {
          header = record { long = k.0; starts = s; some = positive (version_of b) (λ q. n (k.1 ∙ q)) };
          version-is = sym x ∙ k.1;
          next-is = sym y ∙ k.2;
        }
      where
        positive : (i : ℕ) → (i ≡ 0 → ⊥) → 0 < i
        positive i h = omega (arith, h)

    by : (c : ℕ) (p : Part) → part_bytes b p ≡ take 4 b → c ≡ 4 → (t : Bool) → same (0x00 ∷ 0x61 ∷ 0x73 ∷ 0x6D ∷ []) (part_bytes b p) ≡ t
        → pick t (onward (fixed_at b c) (λ w e. pick (eqb w 0) (refused 2 (offset 4)) (accepted (got w e)))) (refused 2 (offset 0))
        ≡ accepted (got v d)
        → HeaderOnly b v d
    by c p q k true t f =
        let o = read-on (fixed_at b c) _ f in
        let s = same-is (0x00 ∷ 0x61 ∷ 0x73 ∷ 0x6D ∷ []) (part_bytes b p) t in
        let g = fixed-only b o.what o.next (subst (λ (i : ℕ). fixed_at b i ≡ accepted (got o.what o.next)) k o.first) in
        nonzero o.what o.next g (sym q ∙ s) (eqb o.what 0) refl o.then
    by c p q k false t f = absurd (never f)

-- four bytes are a u32
pub version-small : (b : List ℕ) → Bytes b → version_of b < 2 ^ 32
version-small b h = omega (arith, h 4, h 5, h 6, h 7)
