-- Where a read that was accepted ends: after its start, and within the bytes. Assumes nothing.
use Prim.Native.Nat.{ℕ, ◌+◌, ◌-◌, ◌≤◌, ◌<◌}
use native.Mathlib.Nat.{add-sub_cancel_left}
use native.Mathlib.Omega.{arith}
use mathlib.Core.Path.{◌≡◌, refl, sym, ◌∙◌, ap}
use mathlib.Core.Bool.{Bool, true, false}
use mathlib.Core.List.{List}
use lib.ListN.{length, take, drop, get_or, length-drop}
use lib.Dec.{ltb, leb, eqb}
use borrow.Author.Tests.{ltb-true, leb-true, eq-eqb, ne_eqb}
use Rattle.text.specs.Utf8.{up_to}
use Rattle.refusal.specs.Pick.{pick}
use Rattle.refusal.specs.Said.{accepted, refused, got, offset, kind_at}
use Rattle.refusal.specs.declared.Part.{Part}
use Rattle.refusal.proofs.Following.{never, read-on}
use Rattle.leb.specs.Grammar.{U, last_u, more_u}
use Rattle.leb.specs.Reads.{part, part_bytes, narrowed, uleb_at, u32_at, byte_at, taken_at, counted_at, checked, name_at}
use Rattle.leb.proofs.Conform.{u64-only, narrow-only}

pub record Ahead (s : List ℕ) (at d : ℕ) : Type 0 where
  pub past : at < d
  pub in-s : d ≤ length s

-- a number takes a byte at least
pub u-takes : {N v k : ℕ} {l : List ℕ} → U N l v k → (1 ≤ k) × (k ≤ length l)
u-takes (last_u a b) = (omega arith, omega arith)
u-takes (more_u a b r) = let h = u-takes r in (omega arith, omega (arith, h.1))

pub uleb-in : (s : List ℕ) (at v d : ℕ) → uleb_at s at ≡ accepted (got v d) → Ahead s at d
uleb-in s at v d e =
    let o = u64-only s at v d e in
    let u = u-takes o.1 in
    record { past = omega (arith, u.0, o.2); in-s = omega (arith, u.0, u.1, o.2, length-drop at s) }

pub u32-in : (s : List ℕ) (at v d : ℕ) → u32_at s at ≡ accepted (got v d) → Ahead s at d × (v < 4294967296)
unfolding u32_at
u32-in s at v d e =
    let o = read-on (uleb_at s at) narrowed e in
    let n = narrow-only o.what o.next v d o.then in
    let h = uleb-in s at o.what o.next o.first in
    (record { past = omega (arith, h.past, n.1); in-s = omega (arith, h.in-s, n.1) }, omega (arith, n.0, n.2))

pub byte-in : (s : List ℕ) (at v d : ℕ) → byte_at s at ≡ accepted (got v d) → Ahead s at d
unfolding byte_at
byte-in s at v d e = go (ltb at (length s)) refl e where
  go : (b : Bool) → ltb at (length s) ≡ b → pick b (accepted (got (get_or s at 0) (at + 1))) (refused 1 (offset at)) ≡ accepted (got v d)
      → Ahead s at d
  go true t f = let a : at + 1 ≡ d = cc in record { past = omega arith; in-s = omega (arith, ltb-true at (length s) t) }
  go false t f = absurd (never f)

-- n bytes that were taken
pub record Taken (s : List ℕ) (at n : ℕ) (p : Part) (d : ℕ) : Type 0 where
  pub start : p.from ≡ at
  pub size : p.len ≡ n
  pub next : d ≡ at + n
  pub in-s : at + n ≤ length s

pub take_in : (s : List ℕ) (at n : ℕ) (p : Part) (d : ℕ) → taken_at s at n ≡ accepted (got p d) → Taken s at n p d
unfolding taken_at
take_in s at n p d e = one (ltb (length s) at) e where
  three : (t : Bool) → leb (at + n) (length s) ≡ t
      → pick t (accepted (got (part at n) (at + n))) (refused 1 (offset at)) ≡ accepted (got p d)
      → Taken s at n p d
  three true t f =
      let c : part at n ≡ p = cc in
      record {
        start = sym (ap (λ (x : Part). x.from) c);
        size = sym (ap (λ (x : Part). x.len) c);
        next = cc;
        in-s = leb-true (at + n) (length s) t;
      }
  three false t f = absurd (never f)

  two : (t : Bool)
      → pick t (refused 5 (kind_at at at)) (pick (leb (at + n) (length s)) (accepted (got (part at n) (at + n))) (refused 1 (offset at)))
      ≡ accepted (got p d)
      → Taken s at n p d
  two true f = absurd (never f)
  two false f = three (leb (at + n) (length s)) refl f

  one : (t : Bool)
      → pick t (refused 1 (offset at))
      (pick (ltb (18446744073709551615 - at) n) (refused 5 (kind_at at at))
      (pick (leb (at + n) (length s)) (accepted (got (part at n) (at + n))) (refused 1 (offset at))))
      ≡ accepted (got p d)
      → Taken s at n p d
  one true f = absurd (never f)
  one false f = two (ltb (18446744073709551615 - at) n) f

-- a range that was read: it lies after its length, and ends where the next read begins
pub record Whole (s : List ℕ) (at : ℕ) (p : Part) (d : ℕ) : Type 0 where
  pub past : at < p.from
  pub end : p.from + p.len ≡ d
  pub in-s : d ≤ length s

pub counted-in : (s : List ℕ) (at : ℕ) (p : Part) (d : ℕ) → counted_at s at ≡ accepted (got p d) → Whole s at p d
unfolding counted_at
counted-in s at p d e =
    let o = read-on (u32_at s at) (λ n next. taken_at s next n) e in
    let h = u32-in s at o.what o.next o.first in
    let t = take_in s o.next o.what p d o.then in
    record {
      past = omega (arith, h.0.past, t.start);
      end = omega (arith, t.start, t.size, t.next);
      in-s = omega (arith, t.next, t.in-s);
    }

checked-is : (s : List ℕ) (p q : Part) (d e : ℕ) → checked s p d ≡ accepted (got q e) → (p ≡ q) × (d ≡ e)
unfolding checked
checked-is s p q d e h = go (eqb (up_to (part_bytes s p)) p.len) h where
  go : (b : Bool) → pick b (accepted (got p d)) (refused 4 (offset p.from)) ≡ accepted (got q e) → (p ≡ q) × (d ≡ e)
  go true f = (cc, cc)
  go false f = absurd (never f)

-- the test of a name, by what `valid_up_to` answers of its bytes
module _ (s : List ℕ) (p : Part) (next : ℕ) {r : ℕ} (e : r ≡ up_to (take (p.from + p.len - p.from) (drop p.from s))) where
  up-to : r ≡ up_to (part_bytes s p)
  up-to = e ∙ ap (λ (n : ℕ). up_to (take n (drop p.from s))) (add-sub_cancel_left p.from p.len)

  pub name-good : r ≡ p.len → accepted (got p next) ≡ checked s p next
  unfolding checked
  name-good h = simp (eq-eqb (up_to (part_bytes s p)) p.len (sym up-to ∙ h))

  pub name-bad : (r ≡ p.len → ⊥) → refused 4 (offset p.from) ≡ checked s p next
  unfolding checked
  name-bad h = simp (ne_eqb (up_to (part_bytes s p)) p.len (λ q. h (up-to ∙ q)))

pub name_in : (s : List ℕ) (at : ℕ) (p : Part) (d : ℕ) → name_at s at ≡ accepted (got p d) → Whole s at p d
unfolding name_at
name_in s at p d e =
    let f = read-on (counted_at s at) (checked s) e in
    let c = checked-is s f.what p f.next d f.then in
    let w = counted-in s at f.what f.next f.first in
    let u = ap (λ (z : Part). z.from) c.0 in
    let v = ap (λ (z : Part). z.len) c.0 in
    record { past = omega (arith, w.past, u); end = omega (arith, w.end, u, v, c.1); in-s = omega (arith, w.in-s, c.1) }
