-- A section or subsection that was accepted, taken apart: what was read of it, and where it lies. Assumes nothing.
use Prim.Native.Nat.{ℕ, ◌+◌, ◌≤◌, ◌<◌}
use native.Mathlib.Omega.{arith}
use mathlib.Core.Path.{◌≡◌, refl}
use mathlib.Core.Bool.{Bool, true, false}
use mathlib.Core.List.{List}
use lib.ListN.{length}
use lib.Dec.{ltb}
use borrow.Author.Tests.{ltb-true}
use Rattle.refusal.specs.Pick.{pick}
use Rattle.refusal.specs.Said.{accepted, refused, relocated, got, spot}
use Rattle.refusal.specs.declared.Part.{Part}
use Rattle.refusal.proofs.Following.{never, read-on, relocated-got}
use Rattle.table.specs.Shape.{capacity_in}
use Rattle.leb.specs.Reads.{part_bytes, byte_at, counted_at}
use Rattle.leb.proofs.Bounds.{byte-in, counted-in}
use Rattle.wasm.specs.Shapes.{Section}
use Rattle.wasm.specs.Custom.{Names, told_by, subsection_at}
use Rattle.wasm.specs.Module.{Tables, with_section, Sizes, Inner, contents_at, add_section, section_at}
use Rattle.conform.proofs.Walks.{same-got}

abbrev pub row_of : ℕ → Part → Inner → Section
row_of id p u = record { id = id; from = p.from; size = p.len; name = u.name }

-- id, payload and contents were read, and the row was added
pub record Took (b : List ℕ) (z : Sizes) (at : ℕ) (t u : Tables) (d : ℕ) : Type 0 where
  pub id : ℕ
  pub a : ℕ
  pub payload : Part
  pub inner : Inner
  pub end : ℕ
  pub one : byte_at b at ≡ accepted (got id a)
  pub two : counted_at b a ≡ accepted (got payload d)
  pub three : contents_at id (part_bytes b payload) payload.from z t ≡ accepted (got inner end)
  pub is : u ≡ with_section inner.tables (row_of id payload inner)
  pub room : length inner.tables.sections < capacity_in 1 z.sections
  pub past : at < payload.from
  pub ends : payload.from + payload.len ≡ d
  pub in_b : d ≤ length b

-- a row that was added had room
added : (n : ℕ) (row : Section) (next : ℕ) (t u : Tables) (d : ℕ) → add_section n row next t ≡ accepted (got u d)
    → (u ≡ with_section t row) × (next ≡ d) × (length t.sections < capacity_in 1 n)
unfolding add_section
added n row next t u d e = by (ltb (length t.sections) (capacity_in 1 n)) refl e where
  by : (x : Bool) → ltb (length t.sections) (capacity_in 1 n) ≡ x
      → pick x (accepted (got (with_section t row) next)) (refused 13 (spot 1)) ≡ accepted (got u d)
      → (u ≡ with_section t row) × (next ≡ d) × (length t.sections < capacity_in 1 n)
  by true x f = (cc, cc, ltb-true (length t.sections) (capacity_in 1 n) x)
  by false x f = absurd (never f)

-- every accepted section is of this form
pub took : (b : List ℕ) (z : Sizes) (at : ℕ) (t u : Tables) (d : ℕ) → section_at b z at t ≡ accepted (got u d) → Took b z at t u d
unfolding section_at
took b z at t u d e =
    let x = read-on (byte_at b at) _ e in
    let y = read-on (counted_at b x.next) _ x.then in
    let c = read-on (relocated y.what.from (contents_at x.what (part_bytes b y.what) y.what.from z t)) _ y.then in
    let o = added z.sections (row_of x.what y.what c.what) y.next c.what.tables u d c.then in
    let v = byte-in b at x.what x.next x.first in
    let w = counted-in b x.next y.what y.next y.first in
    record {
      id = x.what;
      a = x.next;
      payload = y.what;
      inner = c.what;
      end = c.next;
      one = x.first;
      two = rw o.1 at y.first;
      three = relocated-got y.what.from _ c.first;
      is = o.0;
      room = o.2;
      past = omega (arith, v.past, w.past);
      ends = omega (arith, w.end, o.1);
      in_b = omega (arith, o.1, w.in-s);
    }

-- a subsection that was accepted
pub record TookSub (s : List ℕ) (base n at : ℕ) (t u : Names) (d : ℕ) : Type 0 where
  pub id : ℕ
  pub a : ℕ
  pub payload : Part
  pub end : ℕ
  pub one : byte_at s at ≡ accepted (got id a)
  pub two : counted_at s a ≡ accepted (got payload d)
  pub three : told_by id (part_bytes s payload) (base + payload.from) n t ≡ accepted (got u end)
  pub past : at < payload.from
  pub ends : payload.from + payload.len ≡ d
  pub in-s : d ≤ length s

-- every accepted subsection is of this form
pub took-sub : (s : List ℕ) (base n at : ℕ) (t u : Names) (d : ℕ) → subsection_at s base n at t ≡ accepted (got u d)
    → TookSub s base n at t u d
unfolding subsection_at
took-sub s base n at t u d e =
    let x = read-on (byte_at s at) _ e in
    let y = read-on (counted_at s x.next) _ x.then in
    let c = read-on (relocated y.what.from (told_by x.what (part_bytes s y.what) (base + y.what.from) n t)) _ y.then in
    let o = same-got c.then in
    let v = byte-in s at x.what x.next x.first in
    let w = counted-in s x.next y.what y.next y.first in
    record {
      id = x.what;
      a = x.next;
      payload = y.what;
      end = c.next;
      one = x.first;
      two = rw o.1 at y.first;
      three = rw o.0 at (relocated-got y.what.from _ c.first);
      past = omega (arith, v.past, w.past);
      ends = omega (arith, w.end, o.1);
      in-s = omega (arith, o.1, w.in-s);
    }
