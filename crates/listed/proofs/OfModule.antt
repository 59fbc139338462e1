-- A module that was read, with tables of any sizes, and its rows; tables for few rows first. Assumes nothing.
use Prim.Native.Nat.{ℕ}
use native.Mathlib.Omega.{arith}
use mathlib.Core.Path.{◌≡◌, refl, sym, ap, ◌∙◌, subst}
use mathlib.Core.List.{List}
use lib.ListN.{length, replicate, length-replicate}
use Rattle.refusal.specs.Said.{Said, accepted, refused_by, number_of, where_of}
use Rattle.refusal.specs.declared.Refusal.{Refusal}
use Rattle.refusal.specs.contracts.Refusal.{the_type as refusals}
use denote.Enum.Declared.{tag_of}
use Rattle.refusal.proofs.Known.{full-tagged}
use Rattle.table.specs.Shape.{full_cells}
use Rattle.wasm.specs.Module.{Sizes, Parsed, module_at, Lent, ModuleIs, sizes}
use Rattle.wasm.specs.Lending.{lent, SameTables}
use Rattle.wasm.specs.declared.LentTables.{LentTables}
use Rattle.wasm.specs.declared.Module.{Module}
use Rattle.conform.specs.Sound.{limits}
use Rattle.conform.proofs.Found.{Found, sections-in, imports-in, exports-in, names_in}
use Rattle.conform.proofs.Found.{sections-taken, imports-taken, exports-taken, names-taken}
use Rattle.conform.proofs.Larger.{limits-largest, limits-decide, refused-same}
use Rattle.output.specs.Bytes.{room_for}
use Rattle.listed.specs.declared.modules.ModuleTold.{ModuleTold}
use Rattle.listed.specs.Delivered.{Lays, Delivers}
use Rattle.listed.specs.Modules.{no_module, module_by, module_bytes, module_told, sized, taken_bytes, TablesWithin, ModuleCounted}
use Rattle.listed.specs.Comparisons.{RowsRead}
use Rattle.listed.proofs.Laying.{delivers, delivers-none}

-- ---- a module that was read
module _ {file : List ℕ} {z : Sizes} {l : Lent} {m : Module} (q : Found file z l m) where
  pub module-counted : TablesWithin l → ModuleCounted m l
  module-counted w =
      record { sections-in = sections-in q; imports-in = imports-in q; exports-in = exports-in q; names_in = names_in q; within = w }

  same_bytes : taken_bytes m l ≡ module_bytes q.what
  unfolding module_bytes
  same_bytes = rw (sections-taken q, imports-taken q, exports-taken q, names-taken q)

  pub module-delivered : {d y : List ℕ} {r : ModuleTold}
      → Lays (module_by m) (room_for (taken_bytes m l) (length d)) d r y
      → Delivers module_bytes (module_told (length file)) (module_at file z) d r y
  module-delivered {d} {y} {r} k =
      delivers module_bytes (module_told (length file)) (module_by m) q.what q.first
      (ap (λ (v : Module). module_by v (accepted (length (module_bytes q.what)))) q.is) (λ n p. refl)
      (subst (λ (w : List ℕ). Lays (module_by m) (room_for w (length d)) d r y) same_bytes k)

  -- what is read with any tables is read with those at the limits
  pub module-settled : {d y : List ℕ} {r : ModuleTold}
      → Lays (module_by m) (room_for (taken_bytes m l) (length d)) d r y
      → Delivers module_bytes (module_told (length file)) (module_at file limits) d r y
  module-settled {d} {y} {r} k =
      subst (λ (x : Said Parsed). Delivers module_bytes (module_told (length file)) x d r y)
      (q.first ∙ sym (limits-decide file z q.what q.first)) (module-delivered k)

-- tables that are read into stay within the limits
pub still-within : {before after : LentTables} → SameTables before after → TablesWithin (lent before) → TablesWithin (lent after)
still-within same w =
    let z = same.sizes-same in
    record {
      sections-few = omega (arith, ap (λ (s : Sizes). s.sections) z, w.sections-few);
      imports-few = omega (arith, ap (λ (s : Sizes). s.imports) z, w.imports-few);
      exports-few = omega (arith, ap (λ (s : Sizes). s.exports) z, w.exports-few);
      names-few = omega (arith, ap (λ (s : Sizes). s.names) z, w.names-few);
    }

-- two of the tables are a caller's
pub rows-read : (file : List ℕ) {imports exports : List ℕ} {i e : ℕ} {l : Lent} {a : Said Module}
    → (let z : Sizes = record { sections = full_cells 1; imports = i; exports = e; names = full_cells 4 } in
    ModuleIs (length file) z (module_at file z) l a)
    → imports ≡ l.imports → exports ≡ l.exports → RowsRead file i e imports exports a
rows-read file {l = l} k p q = (l.sections, l.names, rw (p, q) k)

-- what is refused with any tables, but for want of room, is refused with those at the limits
pub refusal-settled : (file : List ℕ) (z : Sizes) (w : Refusal) {d : List ℕ} {r : ModuleTold} → module_at file z ≡ refused_by w
    → (tag_of refusals w ≡ 11 → ⊥) → r ≡ no_module (number_of w) (where_of w)
    → Delivers module_bytes (module_told (length file)) (module_at file limits) d r d
refusal-settled file z w e other k =
    delivers-none module_bytes (module_told (length file))
    (refused-same file z limits (number_of w) (where_of w) (limits-largest z) (λ n. other (full-tagged w n)) e) k

-- what is said with tables of zeros is said with tables of so many cells
pub read-in : (file : List ℕ) (s i e n : ℕ) {a : Said Parsed}
    → module_at file (sizes (replicate s 0) (replicate i 0) (replicate e 0) (replicate n 0)) ≡ a → module_at file (sized s i e n) ≡ a
read-in file s i e n h = ap (module_at file) (sym same_sizes) ∙ h where
  same_sizes : sizes (replicate s 0) (replicate i 0) (replicate e 0) (replicate n 0) ≡ sized s i e n
  same_sizes = simp length-replicate refl
