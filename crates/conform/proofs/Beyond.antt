-- The differences between the reader and the specification's grammar, proved. Assumes nothing.
use Prim.Native.Nat.{ℕ, ◌+◌, ◌-◌}
use native.Mathlib.Omega.{arith}
use mathlib.Core.Path.{◌≡◌, ◌∙◌, ap}
use mathlib.Core.List.{List}
use lib.ListN.{length}
use borrow.Author.Tests.{le-ltb, le-leb, ne_eqb}
use Rattle.refusal.specs.Said.{Said, accepted, relocated, moved_by, Got, got, onward}
use Rattle.refusal.specs.Sizes.{file_limit}
use Rattle.table.specs.Walking.{walk_from}
use Rattle.table.proofs.Walking.{from-stop, from-go}
use Rattle.leb.specs.Reads.{byte_at, u32_at, taken_at, counted_at}
use Rattle.leb.proofs.Beyond.{u32-long}
use Rattle.leb.proofs.Bounds.{byte-in}
use Rattle.wasm.specs.Entry.{limits_at, table_at, global_at, export_at}
use Rattle.wasm.specs.Module.{Tables, Sizes, contents_at, section_at, module_at}
use Rattle.conform.specs.Port.{version_of}
use Rattle.conform.specs.Beyond.{AnyVersion, StartAnew, AnyId, FlagBits, ExportKinds, ElementTypes, GlobalTypes, LongSizes}
use Rattle.conform.specs.Beyond.{Comes, start, after, FirstRefusal, FaultyNames}
use Rattle.conform.proofs.Header.{header-reads, header-only}
use Rattle.conform.proofs.Sections.{took}

-- the header: exactly the magic and a version that is not zero
pub any-version : (b : List ℕ) → AnyVersion b
any-version b =
    record { taken = header-reads b; only = λ v d e. let h = header-only b v d e in (h.header, h.version-is, h.next-is) }

-- a second import or export section starts its table anew
pub start-anew : (s : List ℕ) (base : ℕ) (z : Sizes) (t : Tables) → StartAnew s base z t
unfolding contents_at onward
start-anew s base z t = record { imports = λ rows d e. rw e; exports = λ rows d e. rw e }

-- ids other than 0, 2 and 7 are recorded, whatever they hold
pub any-id : AnyId
unfolding contents_at
any-id id s base z t n0 n2 n7 = rw (ne_eqb id 0 n0, ne_eqb id 2 n2, ne_eqb id 7 n7)

-- only bit 0 of a flag counts
pub flag-bits : (s : List ℕ) (at f a n c : ℕ) (flag : byte_at s at ≡ accepted (got f a)) (low : u32_at s a ≡ accepted (got n c))
    → FlagBits s at f a n c flag low
unfolding limits_at onward
flag-bits s at f a n c flag low =
    record { even = λ h. rw (flag, low, h); odd = λ h m d high. rw (flag, low, h, high) }

-- any export kind
pub export-kinds : ExportKinds
unfolding export_at onward
export-kinds s base at p a kind c index d name one number = rw (name, one, number)

-- any element type
pub element-types : ElementTypes
unfolding table_at onward
element-types s at e a l d one two = rw (one, two)

-- any value type and mutability
pub global-types : GlobalTypes
unfolding global_at onward
global-types s at v a m d one two = rw (one, two)

-- sizes of up to ten bytes
pub long-sizes : LongSizes
unfolding counted_at taken_at onward
long-sizes s at n k u small fits whole =
    rw (
      u32-long s at n k u small,
      le-ltb (length s) (at + k) (omega arith),
      le-ltb (18446744073709551615 - (at + k)) n (omega arith),
      le-leb (at + k + n) (length s) whole,
    )

-- ---- refusals
-- what is left decides
comes : (b : List ℕ) (z : Sizes) (at : ℕ) (t : Tables) → Comes b z at t
    → module_at b z ≡ onward (walk_from (section_at b z) b at t) (λ u d. accepted (record { version = version_of b; tables = u }))
unfolding module_at onward
comes b z at t (start h short) = rw (le-ltb file_limit (length b) short, header-reads b h)
comes b z d u (after {at = at} {t = t} c e) =
    let k = took b z at t u d e in
    comes b z at t c
    ∙ ap (λ (x : Said (Got Tables)). onward x (λ u d. accepted (record { version = version_of b; tables = u })))
    (from-go (section_at b z) b at t u d e (omega (arith, k.past, k.ends)) k.in_b)

-- the first section that is refused refuses the file
pub first-refusal : FirstRefusal
unfolding onward
first-refusal b z at n p t c h e =
    comes b z at t c
    ∙ ap (λ (x : Said (Got Tables)). onward x (λ u d. accepted (record { version = version_of b; tables = u })))
    (from-stop (section_at b z) b at t n p h e)

-- a custom section whose contents are refused refuses the file
pub faulty-names : FaultyNames
unfolding section_at contents_at onward relocated
faulty-names b z at a d n q t p c one two refuses =
    let x = byte-in b at 0 a one in
    first-refusal b z at n (moved_by p.from q) t c (omega (arith, x.past, x.in-s)) (rw (one, two, refuses))
