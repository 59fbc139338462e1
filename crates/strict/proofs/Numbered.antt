-- The numbers with which a plain read is refused: 20 is not among them, which is the rules' own. A law for each definition. Assumes
-- nothing.
use Prim.Native.Nat.{ℕ, zero, suc, ◌+◌, ◌-◌, ◌%◌}
use mathlib.Core.Path.{◌≡◌, refl}
use mathlib.Core.Bool.{true}
use mathlib.Core.List.{List, [], ◌∷◌, ◌++◌}
use lib.ListN.{length, drop}
use lib.Dec.{eqb, ltb, leb}
use Rattle.refusal.specs.Pick.{pick}
use Rattle.refusal.specs.Sizes.{file_limit}
use Rattle.refusal.specs.Said.{Said, accepted, refused, relocated, moved_by, Got, got, offset, spot, kind_at}
use Rattle.text.specs.Find.{same}
use Rattle.text.specs.Utf8.{up_to}
use Rattle.table.specs.Shape.{capacity_in}
use Rattle.table.specs.Entries.{entries_from}
use Rattle.table.specs.Walking.{walk_from}
use Rattle.table.proofs.Numbers.{Numbers, fine, off, choice, chain, walks_from}
use Rattle.leb.specs.Groups.{Out, value, ends, overlong, oversize, u_n}
use Rattle.leb.specs.Reads.{part_bytes, told_at, narrowed, uleb_at, byte_at, u32_at, fixed_at, taken_at, counted_at, checked, name_at}
use Rattle.wasm.specs.Shapes.{Symbol}
use Rattle.wasm.specs.Entry.{limits_at, func_at, table_at, memory_at, global_at, desc_at, import_at, export_at, symbol_at}
use Rattle.wasm.specs.Rows.{imports_of, exports_of, symbols_of}
use Rattle.wasm.specs.Custom.{Names, name_word, label_at, told_by, subsection_at, custom_at}
use Rattle.wasm.specs.Module.{Tables, Sizes, no_tables, contents_at, add_section, section_at, magic, header_at, module_at}
use Rattle.strict.specs.Claims.{one_of, plain_refusals, PlainNumbers}

-- a refusal's number is one of those of a plain read
abbrev Plain : {X : Type 0} → Said X → Type 0
Plain x = Numbers (λ n. one_of n plain_refusals ≡ true) x

entries : {R : Type 0} (read : ℕ → Said (Got R)) (tn room : ℕ) → ((at : ℕ) → Plain (read at)) → (n at : ℕ) (rows : List R)
    → Plain (entries_from read tn room n at rows)
unfolding entries_from
entries read tn room h zero at rows = fine _
entries read tn room h (suc n) at rows =
    chain (read at) _ (h at)
    (λ row next. choice (ltb (length rows) room) (entries read tn room h n next (rows ++ (row ∷ []))) (off 13 (spot tn) refl))

-- ---- numbers and names
byte : (s : List ℕ) (at : ℕ) → Plain (byte_at s at)
unfolding byte_at
byte s at = choice (ltb at (length s)) (fine _) (off 1 (offset at) refl)

fixed : (s : List ℕ) (at : ℕ) → Plain (fixed_at s at)
unfolding fixed_at
fixed s at = choice (leb (at + 4) (length s)) (fine _) (off 1 (offset at) refl)

taken : (s : List ℕ) (at n : ℕ) → Plain (taken_at s at n)
unfolding taken_at
taken s at n =
    choice (ltb (length s) at) (off 1 (offset at) refl)
    (choice (ltb (18446744073709551615 - at) n) (off 5 (kind_at at at) refl)
    (choice (leb (at + n) (length s)) (fine _) (off 1 (offset at) refl)))

telling : (at : ℕ) (o : Out ℕ) → Plain (told_at at o)
unfolding told_at
telling at (value v k) = fine _
telling at (ends k) = off 1 (offset (at + k)) refl
telling at overlong = off 17 (offset at) refl
telling at oversize = off 18 (offset at) refl

number : (s : List ℕ) (at : ℕ) → Plain (u32_at s at)
unfolding u32_at uleb_at narrowed
number s at =
    chain (told_at at (u_n 64 (drop at s))) _ (telling at (u_n 64 (drop at s)))
    (λ v next. choice (leb v 4294967295) (fine _) (off 19 (offset next) refl))

counted : (s : List ℕ) (at : ℕ) → Plain (counted_at s at)
unfolding counted_at
counted s at = chain (u32_at s at) _ (number s at) (λ n next. taken s next n)

name : (s : List ℕ) (at : ℕ) → Plain (name_at s at)
unfolding name_at checked
name s at =
    chain (counted_at s at) _ (counted s at)
    (λ p next. choice (eqb (up_to (part_bytes s p)) p.len) (fine _) (off 4 (offset p.from) refl))

-- ---- entries
limits : (s : List ℕ) (at : ℕ) → Plain (limits_at s at)
unfolding limits_at
limits s at =
    chain (byte_at s at) _ (byte s at) (λ flag a.
    chain (u32_at s a) _ (number s a) (λ least b.
    choice (eqb (flag % 2) 1) (chain (u32_at s b) _ (number s b) (λ none_above d. fine _)) (fine _)))

desc : (s : List ℕ) (kind i at : ℕ) → Plain (desc_at s kind i at)
unfolding desc_at func_at table_at memory_at global_at
desc s kind i at =
    choice (eqb kind 0) (chain (u32_at s at) _ (number s at) (λ v d. fine _))
    (choice (eqb kind 1) (chain (byte_at s at) _ (byte s at) (λ v a. chain (limits_at s a) _ (limits s a) (λ l b. fine _)))
    (choice (eqb kind 2) (chain (limits_at s at) _ (limits s at) (λ l b. fine _))
    (choice (eqb kind 3) (chain (byte_at s at) _ (byte s at) (λ v a. chain (byte_at s a) _ (byte s a) (λ w b. fine _)))
    (off 5 (kind_at kind i) refl))))

import' : (s : List ℕ) (base at : ℕ) → Plain (import_at s base at)
unfolding import_at
import' s base at =
    chain (name_at s at) _ (name s at) (λ m a.
    chain (name_at s a) _ (name s a) (λ f b.
    chain (byte_at s b) _ (byte s b) (λ kind d.
    chain (desc_at s kind b d) _ (desc s kind b d) (λ v e. fine _))))

export' : (s : List ℕ) (base at : ℕ) → Plain (export_at s base at)
unfolding export_at
export' s base at =
    chain (name_at s at) _ (name s at) (λ p a.
    chain (byte_at s a) _ (byte s a) (λ kind b.
    chain (u32_at s b) _ (number s b) (λ v d. fine _)))

symbol : (s : List ℕ) (base at : ℕ) → Plain (symbol_at s base at)
unfolding symbol_at
symbol s base at = chain (u32_at s at) _ (number s at) (λ v a. chain (name_at s a) _ (name s a) (λ p b. fine _))

-- ---- sections
-- told from elsewhere, a refusal has its number
moved : {X : Type 0} (by : ℕ) (x : Said X) → Plain x → Plain (relocated by x)
unfolding relocated
moved by (accepted v) h = fine v
moved by (refused n p) h = off n (moved_by by p) (h.number n p refl)

symbols : (s : List ℕ) (base n : ℕ) (rows : List Symbol) → Plain (symbols_of s base n rows)
unfolding symbols_of
symbols s base n rows =
    chain (u32_at s 0) _ (number s 0) (λ count at. entries (symbol_at s base) 4 (capacity_in 4 n) (symbol s base) count at rows)

told-plain : (id : ℕ) (s : List ℕ) (base n : ℕ) (t : Names) → Plain (told_by id s base n t)
unfolding told_by label_at
told-plain id s base n t =
    choice (eqb id 0) (chain (name_at s 0) _ (name s 0) (λ p e. fine _))
    (choice (eqb id 1) (chain (symbols_of s base n t.symbols) _ (symbols s base n t.symbols) (λ rows e. fine _)) (fine _))

subsection : (s : List ℕ) (base n at : ℕ) (t : Names) → Plain (subsection_at s base n at t)
unfolding subsection_at
subsection s base n at t =
    chain (byte_at s at) _ (byte s at) (λ id a.
    chain (counted_at s a) _ (counted s a) (λ p next.
    chain (relocated p.from (told_by id (part_bytes s p) (base + p.from) n t)) _
    (moved p.from _ (told-plain id (part_bytes s p) (base + p.from) n t)) (λ u e. fine _)))

custom : (s : List ℕ) (base n : ℕ) (t : Names) → Plain (custom_at s base n t)
unfolding custom_at
custom s base n t =
    chain (name_at s 0) _ (name s 0) (λ p at.
    chain (pick (same name_word (part_bytes s p)) (walk_from (subsection_at s base n) s at t) (accepted (got t at))) _
    (choice (same name_word (part_bytes s p)) (walks_from (subsection_at s base n) (subsection s base n) s at t) (fine _)) (λ u e. fine _))

contents : (id : ℕ) (s : List ℕ) (base : ℕ) (z : Sizes) (t : Tables) → Plain (contents_at id s base z t)
unfolding contents_at imports_of exports_of
contents id s base z t =
    choice (eqb id 0) (chain (custom_at s base z.names t.names) _ (custom s base z.names t.names) (λ u e. fine _))
    (choice (eqb id 2)
    (chain _ _ (chain (u32_at s 0) _ (number s 0) (λ count at.
    entries (import_at s base) 2 (capacity_in 2 z.imports) (import' s base) count at [])) (λ rows e. fine _))
    (choice (eqb id 7)
    (chain _ _ (chain (u32_at s 0) _ (number s 0) (λ count at.
    entries (export_at s base) 3 (capacity_in 3 z.exports) (export' s base) count at [])) (λ rows e. fine _))
    (fine _)))

section : (b : List ℕ) (z : Sizes) (at : ℕ) (t : Tables) → Plain (section_at b z at t)
unfolding section_at add_section
section b z at t =
    chain (byte_at b at) _ (byte b at) (λ id a.
    chain (counted_at b a) _ (counted b a) (λ p next.
    chain (relocated p.from (contents_at id (part_bytes b p) p.from z t)) _
    (moved p.from _ (contents id (part_bytes b p) p.from z t)) (λ u e.
    choice (ltb (length u.tables.sections) (capacity_in 1 z.sections)) (fine _) (off 13 (spot 1) refl))))

header : (b : List ℕ) → Plain (header_at b)
unfolding header_at
header b =
    chain (taken_at b 0 4) _ (taken b 0 4) (λ p c.
    choice (same magic (part_bytes b p))
    (chain (fixed_at b c) _ (fixed b c) (λ v d. choice (eqb v 0) (off 2 (offset 4) refl) (fine _))) (off 2 (offset 0) refl))

module-plain : (b : List ℕ) (z : Sizes) → Plain (module_at b z)
unfolding module_at
module-plain b z =
    choice (ltb file_limit (length b)) (off 14 (spot 0) refl)
    (chain (header_at b) _ (header b) (λ v c.
    chain (walk_from (section_at b z) b c no_tables) _ (walks_from (section_at b z) (section b z) b c no_tables) (λ t d. fine _)))

pub plain-numbers : PlainNumbers
plain-numbers b z n p e = (module-plain b z).number n p e
