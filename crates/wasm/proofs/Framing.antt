-- Laws of a section's contents, of its row, and of a section. Assumes nothing.
use Prim.Native.Nat.{ℕ, ◌+◌, ◌≤◌, ◌<◌}
use mathlib.Core.Path.{◌≡◌, refl, sym, ◌∙◌, ap, subst}
use mathlib.Core.Bool.{Bool, true, false}
use mathlib.Core.List.{List, [], ◌∷◌, ◌++◌}
use native.Mathlib.Omega.{arith}
use borrow.Author.Tests.{lt-ltb, le-ltb}
use lib.ListN.{length, length-append}
use lib.Dec.{ltb, eqb}
use Rattle.refusal.specs.Pick.{pick}
use Rattle.refusal.specs.Said.{Said, accepted, refused, refused_by, moved_on, Got, got, onward, spot, Place}
use Rattle.refusal.specs.declared.Part.{Part}
use Rattle.refusal.specs.declared.Refusal.{Refusal}
use Rattle.refusal.proofs.Following.{never}
use Rattle.table.specs.Table.{Lies, laid, cells, put_row}
use Rattle.table.specs.Shape.{width, limit, capacity_in}
use Rattle.table.specs.Told.{ReaderTells, Passed, Ends}
use Rattle.table.proofs.Cells.{room_row}
use Rattle.table.proofs.Laws.{put-row-laid}
use Rattle.table.proofs.Telling.{tell-got, tell-stop, tell-next, tell-after, tell-after-stop, tell-moved-stop, tell-moved-on}
use Rattle.leb.specs.Reads.{part, part_bytes, byte_at, counted_at}
use Rattle.wasm.specs.declared.entry.Import.{Import}
use Rattle.wasm.specs.declared.entry.Export.{Export}
use Rattle.wasm.specs.declared.section.Section.{Section}
use Rattle.wasm.specs.declared.section.Counts.{Counts}
use Rattle.wasm.specs.declared.section.Contents.{Contents}
use Rattle.wasm.specs.declared.custom.Custom.{Custom}
use Rattle.wasm.specs.declared.custom.Named.{Named}
use Rattle.wasm.specs.Rows.{import_cells, export_cells, symbol_cells, imports_of, exports_of}
use Rattle.wasm.specs.Custom.{Names, named_of, custom_of, custom_at, NamesHeld, CustomHeld}
use Rattle.wasm.specs.Module.{section_cells, Tables, counts_of, Sizes, Lent, lend, Holds, Inner, contents_of, Inside}
use Rattle.wasm.specs.Module.{nameless, contents_at, add_section, section_at}

-- ---- contents
abbrev import_count : Counts → ℕ → Counts
import_count n k = record { sections = n.sections; imports = k; exports = n.exports; named = n.named }

abbrev export_count : Counts → ℕ → Counts
export_count n k = record { sections = n.sections; imports = n.imports; exports = k; named = n.named }

abbrev name_count : Counts → Named → Counts
name_count n u = record { sections = n.sections; imports = n.imports; exports = n.exports; named = u }

module _ (id : ℕ) (s : List ℕ) (base : ℕ) {l : Lent} {z : Sizes} (t : Tables) (h : Holds l z t) where
  module _ (is : id ≡ 0) (table : List ℕ) {a : Said (Got Custom)}
      (told : ReaderTells custom_of (CustomHeld table z.names) (custom_at s base z.names t.names) a) where
    pub zero-stop : {P : Inner → Type 0} {n : ℕ} {p : Place} → a ≡ refused n p
        → ReaderTells contents_of P (contents_at id s base z t) (refused n p)
    unfolding contents_at
    zero-stop e = rw is (tell-after-stop _ told e)

    pub zero-got : (n : Counts) {m : Counts} {u : Custom} {d : ℕ} → m ≡ name_count n u.inner → n ≡ counts_of t → a ≡ accepted (got u d)
        → ReaderTells contents_of (Inside (lend l.sections l.imports l.exports table) z) (contents_at id s base z t)
        (accepted (got (record { name = u.name; counts = m }) d))
    unfolding contents_at contents_of counts_of custom_of Inside CustomHeld
    zero-got n {d = d} g c q =
        rw is
        (tell-after _ told q (λ w x v k.
        tell-got _ d refl (rw (g, c, v)) (record {
          sections-are = h.sections-are;
          imports-are = h.imports-are;
          exports-are = h.exports-are;
          names-are = k;
        })))

  module _ (is : id ≡ 2) (table : List ℕ) {a : Said (Got ℕ)}
      (told : ReaderTells length (Lies import_cells z.imports table) (imports_of s base z.imports) a) where
    pub two-stop : {P : Inner → Type 0} {n : ℕ} {p : Place} → a ≡ refused n p
        → ReaderTells contents_of P (contents_at id s base z t) (refused n p)
    unfolding contents_at
    two-stop e = rw is (tell-after-stop _ told e)

    pub two-got : (n : Counts) {m : Counts} {k d : ℕ} → m ≡ import_count n k → n ≡ counts_of t → a ≡ accepted (got k d)
        → ReaderTells contents_of (Inside (lend l.sections table l.exports l.names) z) (contents_at id s base z t)
        (accepted (got (record { name = part 0 0; counts = m }) d))
    unfolding contents_at contents_of counts_of Inside Lies
    two-got n {d = d} g c q =
        rw is
        (tell-after _ told q (λ w x v k.
        tell-got _ d refl (rw (g, c, v)) (record {
          sections-are = h.sections-are;
          imports-are = k;
          exports-are = h.exports-are;
          names-are = h.names-are;
        })))

  module _ (is : id ≡ 7) (table : List ℕ) {a : Said (Got ℕ)}
      (told : ReaderTells length (Lies export_cells z.exports table) (exports_of s base z.exports) a) where
    pub seven-stop : {P : Inner → Type 0} {n : ℕ} {p : Place} → a ≡ refused n p
        → ReaderTells contents_of P (contents_at id s base z t) (refused n p)
    unfolding contents_at
    seven-stop e = rw is (tell-after-stop _ told e)

    pub seven-got : (n : Counts) {m : Counts} {k d : ℕ} → m ≡ export_count n k → n ≡ counts_of t → a ≡ accepted (got k d)
        → ReaderTells contents_of (Inside (lend l.sections l.imports table l.names) z) (contents_at id s base z t)
        (accepted (got (record { name = part 0 0; counts = m }) d))
    unfolding contents_at contents_of counts_of Inside Lies
    seven-got n {d = d} g c q =
        rw is
        (tell-after _ told q (λ w x v k.
        tell-got _ d refl (rw (g, c, v)) (record {
          sections-are = h.sections-are;
          imports-are = h.imports-are;
          exports-are = k;
          names-are = h.names-are;
        })))

  pub other-got : (n : Counts) → eqb id 0 ≡ false → eqb id 2 ≡ false → eqb id 7 ≡ false → n ≡ counts_of t
      → ReaderTells contents_of (Inside l z) (contents_at id s base z t) (accepted (got (record { name = part 0 0; counts = n }) 0))
  unfolding contents_at contents_of Inside
  other-got n a b d c = rw (a, b, d) (tell-got _ 0 refl (rw c) h)

module _ (id : ℕ) (s : List ℕ) (base : ℕ) (z : Sizes) (t : Tables) where
  -- contents leave the sections as they were
  abbrev pub Kept : Said (Got Inner) → Type 0
  Kept x = (u : Inner) (d : ℕ) → x ≡ accepted (got u d) → u.tables.sections ≡ t.sections

  kept_by : {X : Type 0} (x : Said (Got X)) (g : X → Inner) → ((v : X) → (g v).tables.sections ≡ t.sections)
      → Kept (onward x (λ v e. accepted (got (g v) e)))
  unfolding onward
  kept_by (accepted (got v p)) g h u d e = let k : g v ≡ u = cc in sym (ap (λ (w : Inner). w.tables.sections) k) ∙ h v
  kept_by (refused n p) g h u d e = absurd (never e)

  kept-one : (b : Bool) {x y : Said (Got Inner)} → Kept x → Kept y → Kept (pick b x y)
  kept-one true p q = p
  kept-one false p q = q

  pub contents-keep : Kept (contents_at id s base z t)
  unfolding contents_at
  contents-keep =
      kept-one (eqb id 0) (kept_by (custom_at s base z.names t.names) _ (λ v. refl))
      (kept-one (eqb id 2) (kept_by (imports_of s base z.imports) _ (λ v. refl))
      (kept-one (eqb id 7) (kept_by (exports_of s base z.exports) _ (λ v. refl))
      (λ u d e. let k : nameless t ≡ u = cc in sym (ap (λ (w : Inner). w.tables.sections) k))))

-- ---- a section's row
section-wide : (r : Section) → length (section_cells r) ≡ width 1
unfolding section_cells
section-wide r = refl

module _ (z : Sizes) (row : Section) (next : ℕ) (t : Tables) (k : ℕ) (m : Counts) (c : m ≡ counts_of t)
    (e : k ≡ m.sections) where
  count : k ≡ length t.sections
  unfolding counts_of
  count = e ∙ ap (λ (x : Counts). x.sections) c

  pub take-full : {P : Tables → Type 0} → capacity_in 1 z.sections ≤ k
      → ReaderTells counts_of P (add_section z.sections row next t) (refused 13 (spot 1))
  unfolding add_section
  take-full h = let f : capacity_in 1 z.sections ≤ length t.sections = omega (arith, count) in tell-stop (rw (le-ltb _ _ f))

  pub take_more : {l : Lent} → Holds l z t → {after : List ℕ} → k < capacity_in 1 z.sections
      → after ≡ put_row l.sections k (section_cells row)
      → ReaderTells counts_of (Holds (lend after l.imports l.exports l.names) z) (add_section z.sections row next t)
      (accepted (got (record { sections = k + 1; imports = m.imports; exports = m.exports; named = m.named }) next))
  unfolding add_section counts_of
  take_more q h p =
      let f : length t.sections < capacity_in 1 z.sections = omega (arith, count) in
      let s : k + 1 ≡ length (t.sections ++ (row ∷ [])) = omega (arith, count, length-append t.sections (row ∷ [])) in
      rw (lt-ltb _ _ f) (tell-got _ next refl (rw (s, c)) (record {
        sections-are = p ∙ ap (λ (x : List ℕ). put_row x k (section_cells row)) q.sections-are
            ∙ ap (λ (i : ℕ). put_row (laid z.sections (cells section_cells t.sections)) i (section_cells row)) count
            ∙ put-row-laid section_cells (width 1) section-wide z.sections t.sections row
            (room_row z.sections (width 1) (limit 1) (length t.sections) f);
        imports-are = q.imports-are;
        exports-are = q.exports-are;
        names-are = q.names-are;
      }))

-- ---- a section whose id and payload were read
module _ (b : List ℕ) (z : Sizes) (t : Tables) (at id a next : ℕ) (p : Part) (one : byte_at b at ≡ accepted (got id a))
    (two : counted_at b a ≡ accepted (got p next)) (payload : List ℕ) (cut : payload ≡ part_bytes b p)
    (l : Lent) {r : Said (Got Contents)} (told : ReaderTells contents_of (Inside l z) (contents_at id payload p.from z t) r) where
  here : ReaderTells contents_of (Inside l z) (contents_at id (part_bytes b p) p.from z t) r
  here = rw cut at told

  pub section-stop : {P : Tables → Type 0} {v : Refusal} (w : Refusal) → r ≡ refused_by w → v ≡ moved_on p.from w
      → ReaderTells counts_of P (section_at b z at t) (refused_by v)
  unfolding section_at
  section-stop w q m = tell-next _ one (tell-next _ two (tell-moved-stop p.from here _ w q m))

  pub section-got : (u : Contents) (d : ℕ) {z1 : Sizes} (same : z1 ≡ z) {l1 : Lent} {y : Said (Got Counts)} → r ≡ accepted (got u d)
      → ((t1 : Tables) → u.counts ≡ counts_of t1 → Holds l z1 t1
      → ReaderTells counts_of (Holds l1 z1) (add_section z1.sections
      (record { id = id; from = p.from; size = p.len; name = u.name }) next t1) y)
      → ReaderTells counts_of (Holds l1 z) (section_at b z at t) y
  unfolding section_at contents_of Inside
  section-got u d same q taken =
      tell-next _ one (tell-next _ two (tell-moved-on p.from here _ q (λ w x v k.
      let n : w.name ≡ u.name = sym (ap (λ (c : Contents). c.name) v) in
      let g = rw same at taken in
      rw n (g w.tables (ap (λ (c : Contents). c.counts) v) k))))

pub names_of : (n : Counts) (t : Tables) → n ≡ counts_of t → n.named ≡ named_of t.names
unfolding counts_of
names_of n t e = ap (λ (x : Counts). x.named) e

pub listed : {l : Lent} {z : Sizes} {t : Tables} → Holds l z t → NamesHeld l.names z.names t.names
unfolding NamesHeld
listed h = h.names-are

pub ends-passed : (n at next : ℕ) (a : Said (Got Counts)) → at < next → next ≤ n → Ends next a → Passed n at a
unfolding Ends Passed
ends-passed n at next (accepted (got v d)) h k e = (omega (arith, e), omega (arith, e))
ends-passed n at next (refused m p) h k e = tt
