-- Larger tables: what is answered with some tables is answered with any larger ones, but for 13, so that an answer says something of the
-- file alone. Assumes nothing.
use Prim.Native.Nat.{ℕ, ◌+◌, ◌≤◌}
use native.Mathlib.Omega.{arith}
use mathlib.Core.Path.{◌≡◌, sym, ◌∙◌}
use mathlib.Core.List.{List, []}
use lib.ListN.{length}
use lib.Dec.{ltb, eqb}
use Rattle.text.specs.Find.{same as same_text}
use Rattle.refusal.specs.Said.{refused}
use Rattle.refusal.specs.Sizes.{file_limit}
use Rattle.table.specs.Table.{capacity_of}
use Rattle.table.specs.Shape.{width, limit, capacity_in}
use Rattle.table.proofs.Larger.{Sure, same, spare, Full, accepts-too, sure-same, sure-pick, sure-room, sure-onward, sure-from}
use Rattle.table.proofs.Larger.{sure-entries, sure-moved, capacity-up}
use Rattle.leb.specs.Reads.{part_bytes, byte_at, u32_at, name_at, counted_at}
use Rattle.wasm.specs.Entry.{import_at, export_at, symbol_at}
use Rattle.wasm.specs.Rows.{imports_of, exports_of, symbols_of}
use Rattle.wasm.specs.Custom.{Names, told_by, subsection_at, name_word, custom_at}
use Rattle.wasm.specs.Module.{Tables, Sizes, contents_at, add_section, section_at, header_at, no_tables, module_at}
use Rattle.conform.specs.Sound.{Larger, LargerSame, RefusedSame, limits, LimitsDecide, OneModule}

sure-told : (id : ℕ) (s : List ℕ) (base n m : ℕ) (t : Names) → capacity_in 4 n ≤ capacity_in 4 m
    → Sure Full (told_by id s base n t) (told_by id s base m t)
unfolding told_by symbols_of
sure-told id s base n m t h =
    sure-pick (eqb id 0) _ _ _ _ (sure-same _)
    (sure-pick (eqb id 1) _ _ _ _
    (sure-onward _ _ _ _
    (sure-onward _ _ _ _ (sure-same (u32_at s 0)) (λ count at.
    sure-entries (symbol_at s base) 4 _ _ h count at t.symbols)) (λ rows e. sure-same _))
    (sure-same _))

sure-sub : (s : List ℕ) (base n m : ℕ) → capacity_in 4 n ≤ capacity_in 4 m → (at : ℕ) (t : Names)
    → Sure Full (subsection_at s base n at t) (subsection_at s base m at t)
unfolding subsection_at
sure-sub s base n m h at t =
    sure-onward _ _ _ _ (sure-same (byte_at s at)) (λ id a.
    sure-onward _ _ _ _ (sure-same (counted_at s a)) (λ p next.
    sure-onward _ _ _ _ (sure-moved p.from (sure-told id (part_bytes s p) (base + p.from) n m t h)) (λ u e. sure-same _)))

sure-custom : (s : List ℕ) (base n m : ℕ) (t : Names) → capacity_in 4 n ≤ capacity_in 4 m
    → Sure Full (custom_at s base n t) (custom_at s base m t)
unfolding custom_at
sure-custom s base n m t h =
    sure-onward _ _ _ _ (sure-same (name_at s 0)) (λ p at.
    sure-onward _ _ _ _
    (sure-pick (same_text name_word (part_bytes s p)) _ _ _ _
    (sure-from (subsection_at s base n) (subsection_at s base m) (sure-sub s base n m h) s at t) (sure-same _)) (λ u e. sure-same _))

sure-contents : (id : ℕ) (s : List ℕ) (base : ℕ) (z w : Sizes) (t : Tables) → Larger z w
    → Sure Full (contents_at id s base z t) (contents_at id s base w t)
unfolding contents_at imports_of exports_of
sure-contents id s base z w t h =
    sure-pick (eqb id 0) _ _ _ _
    (sure-onward _ _ _ _ (sure-custom s base z.names w.names t.names h.names) (λ u e. sure-same _))
    (sure-pick (eqb id 2) _ _ _ _
    (sure-onward _ _ _ _
    (sure-onward _ _ _ _ (sure-same (u32_at s 0)) (λ count at.
    sure-entries (import_at s base) 2 _ _ h.imports count at [])) (λ rows e. sure-same _))
    (sure-pick (eqb id 7) _ _ _ _
    (sure-onward _ _ _ _
    (sure-onward _ _ _ _ (sure-same (u32_at s 0)) (λ count at.
    sure-entries (export_at s base) 3 _ _ h.exports count at [])) (λ rows e. sure-same _))
    (sure-same _)))

sure-section : (b : List ℕ) (z w : Sizes) → Larger z w → (at : ℕ) (t : Tables) → Sure Full (section_at b z at t) (section_at b w at t)
unfolding section_at add_section
sure-section b z w h at t =
    sure-onward _ _ _ _ (sure-same (byte_at b at)) (λ id a.
    sure-onward _ _ _ _ (sure-same (counted_at b a)) (λ p next.
    sure-onward _ _ _ _ (sure-moved p.from (sure-contents id (part_bytes b p) p.from z w t h)) (λ u e.
    sure-room (length u.tables.sections) _ _ 1 _ _ h.sections (sure-same _))))

-- a file's answer with some tables is that with larger ones, unless they are full
pub larger-sure : (b : List ℕ) (z w : Sizes) → Larger z w → Sure Full (module_at b z) (module_at b w)
unfolding module_at
larger-sure b z w h =
    sure-pick (ltb file_limit (length b)) _ _ _ _ (sure-same _)
    (sure-onward _ _ _ _ (sure-same (header_at b)) (λ v c.
    sure-onward _ _ _ _ (sure-from (section_at b z) (section_at b w) (sure-section b z w h) b c no_tables) (λ t d. sure-same _)))

pub larger-same : LargerSame
larger-same b z w m h = accepts-too (larger-sure b z w h) m

pub refused-same : RefusedSame
refused-same b z w n p h other e = by (larger-sure b z w h)
  where
    by : Sure Full (module_at b z) (module_at b w) → module_at b w ≡ refused n p
    by (same q) = sym q ∙ e
    by (spare m k full q) = let number : n ≡ m = cc in absurd (other (number ∙ full))

-- more cells are more room
pub more-cells : (z w : Sizes) → z.sections ≤ w.sections → z.imports ≤ w.imports → z.exports ≤ w.exports → z.names ≤ w.names
    → Larger z w
more-cells z w s i e n =
    record {
      sections = capacity-up z.sections w.sections (width 1) (limit 1) s;
      imports = capacity-up z.imports w.imports (width 2) (limit 2) i;
      exports = capacity-up z.exports w.exports (width 3) (limit 3) e;
      names = capacity-up z.names w.names (width 4) (limit 4) n;
    }

-- no tables have more room than those at the limits
pub limits-largest : (z : Sizes) → Larger z limits
unfolding capacity_of
limits-largest z = record { sections = omega arith; imports = omega arith; exports = omega arith; names = omega arith }

-- what some tables accept, tables at the limits accept
pub limits-decide : LimitsDecide
limits-decide b z m = larger-same b z limits m (limits-largest z)

-- no two sizes of tables give two modules
pub one-module : OneModule
one-module b z w m n e f =
    let p = limits-decide b z m e in
    let q = limits-decide b w n f in
    cc
