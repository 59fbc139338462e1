-- The rows that the reader leaves: ranges lie in the file, kinds and indices are small, what imports ask for is of
-- their kind, tables hold them, and payloads follow one another.
-- So they never give 15. Assumes nothing.
use Prim.Native.Nat.{ℕ, zero, suc, ◌+◌, ◌%◌, ◌^◌, ◌≤◌, ◌<◌}
use native.Mathlib.Omega.{arith}
use mathlib.Core.Path.{◌≡◌, refl, sym, subst}
use mathlib.Core.Bool.{Bool, true, false}
use mathlib.Core.List.{List, [], ◌∷◌, ◌++◌}
use lib.ListN.{length, get_or, length-append}
use lib.Dec.{ltb, eqb}
use borrow.Author.Tests.{ltb-true, eqb-true, eqb-false}
use Rattle.std.specs.Prelude.{Some, None}
use Rattle.refusal.specs.Pick.{pick}
use Rattle.refusal.specs.Sizes.{file_limit}
use Rattle.refusal.specs.Said.{Said, accepted, refused, Got, got, onward, offset, spot, kind_at}
use Rattle.refusal.specs.declared.Part.{Part}
use Rattle.refusal.proofs.Following.{never, relocated-got}
use Rattle.text.specs.Find.{same}
use Rattle.table.specs.Entries.{entries_from}
use Rattle.table.specs.Walking.{walk_from}
use Rattle.refusal.specs.Each.{Each, each_nil, each-cons}
use Rattle.table.proofs.Giving.{Gives, Of, gives-done, gives-stop, gives-pick, gives-onward, gives-from, gives-entries}
use Rattle.leb.specs.Reads.{part_bytes, byte_at, u32_at, name_at, counted_at}
use Rattle.leb.proofs.Bounds.{u32-in, counted-in, name_in}
use Rattle.wasm.specs.Shapes.{Desc, Section}
use Rattle.wasm.specs.Entry.{limits_at, func_at, table_at, memory_at, global_at, desc_at, import_at, export_at, symbol_at}
use Rattle.wasm.specs.Rows.{imports_of, exports_of, symbols_of}
use Rattle.wasm.specs.Custom.{Names, label_at, told_by, subsection_at, name_word, CustomSaid, custom_at}
use Rattle.wasm.specs.Module.{Tables, Sizes, Inner, contents_at, section_at, header_at, no_tables}
use Rattle.wasm.specs.Module.{Parsed, module_at}
use Rattle.wasm.proofs.Framing.{contents-keep}
use Rattle.conform.specs.Claims.{Bytes}
use Rattle.conform.specs.Sound.{InFile, ImportOk, ExportOk, SymbolOk, SectionOk, NamesOk, TablesOk, Apart, last, next, ModuleOk}
use Rattle.conform.specs.Sound.{LimitsFit, even, odd, DescFits, function, tables, memories, globals, RowsSound}
use Rattle.conform.proofs.Parts.{part_bytes-fit, part_length}
use Rattle.conform.proofs.Walks.{walk-out}
use Rattle.conform.proofs.Sections.{took, row_of}
use Rattle.conform.proofs.Header.{header-only, version-small}

-- a name that is there
labelled : {n : ℕ} {q : Part} → InFile n q → (p : Part) → Some q ≡ Some p → InFile n p
labelled {n} {q} h p e = let same : q ≡ p = cc in subst (InFile n) same h

none-some : {p : Part} → None ≡ Some p → ⊥
none-some e = let z : ◌≡◌ {A = ℕ} 0 1 = cc in omega arith

-- ---- no more rows than there is room for
unfoldable pub Few : {E : Type 0} → ℕ → List E → Type 0
Few room es = length es ≤ room

module _ {E : Type 0} (read : ℕ → Said (Got E)) (tn room : ℕ) where
  few-entries : (n at : ℕ) (rows : List E) → length rows ≤ room → Gives (Of (Few room)) (entries_from read tn room n at rows)
  unfolding entries_from Few Of
  few-entries zero at rows h = gives-done (Of (Few room)) (got rows at) h
  few-entries (suc n) at rows h =
      gives-onward (Of (Few room)) (read at) _ (λ v d e. by v d (few-entries n d (rows ++ (v ∷ []))) (ltb (length rows) room) refl)
    where
      by : (v : E) (d : ℕ)
          → (length (rows ++ (v ∷ [])) ≤ room → Gives (Of (Few room)) (entries_from read tn room n d (rows ++ (v ∷ []))))
          → (t : Bool) → ltb (length rows) room ≡ t
          → Gives (Of (Few room)) (pick t (entries_from read tn room n d (rows ++ (v ∷ []))) (refused 13 (spot tn)))
      by v d ih true t = ih (omega (arith, ltb-true (length rows) room t, length-append rows (v ∷ [])))
      by v d ih false t = gives-stop (Of (Few room)) 13 (spot tn)

  -- a count and so many entries
  pub few-run : (s : List ℕ) (rows : List E) → length rows ≤ room
      → Gives (Of (Few room)) (onward (u32_at s 0) (λ n at. entries_from read tn room n at rows))
  few-run s rows h = gives-onward (Of (Few room)) (u32_at s 0) _ (λ n at e. few-entries n at rows h)

-- ---- numbers
byte_small : (s : List ℕ) → Bytes s → (at v d : ℕ) → byte_at s at ≡ accepted (got v d) → v < 256
unfolding byte_at
byte_small s h at v d e = by (ltb at (length s)) e where
  by : (b : Bool) → pick b (accepted (got (get_or s at 0) (at + 1))) (refused 1 (offset at)) ≡ accepted (got v d) → v < 256
  by true f = let k : get_or s at 0 ≡ v = cc in subst (λ (x : ℕ). x < 256) k (h at)
  by false f = absurd (never f)

-- ---- what an import asks for
by_kind : {T : Type 0} (P : T → Type 0) (kind n : ℕ) (x y : Said T) → (kind ≡ n → Gives P x) → Gives P y → Gives P (pick (eqb kind n) x y)
by_kind P kind n x y g h = by (eqb kind n) refl where
  by : (t : Bool) → eqb kind n ≡ t → Gives P (pick t x y)
  by true t = g (eqb-true kind n t)
  by false t = h

fits-small : {kind : ℕ} {d : Desc} → DescFits kind d → kind < 4
fits-small (function h) = omega arith
fits-small (tables h m) = omega arith
fits-small (memories m) = omega arith
fits-small (globals h k) = omega arith

module _ (s : List ℕ) (bytes : Bytes s) where
  limits-fit : (at : ℕ) → Gives (Of LimitsFit) (limits_at s at)
  unfolding limits_at Of
  limits-fit at =
      gives-onward (Of LimitsFit) (byte_at s at) _ (λ f a e1.
      gives-onward (Of LimitsFit) (u32_at s a) _ (λ n c e2.
      by f n c (byte_small s bytes at f a e1) (u32-in s a n c e2).1 (eqb (f % 2) 1) refl))
    where
      low : (f : ℕ) → (f % 2 ≡ 1 → ⊥) → f % 2 ≡ 0
      low f h = omega (arith, h)

      by : (f n c : ℕ) → f < 256 → n < 2 ^ 32 → (t : Bool) → eqb (f % 2) 1 ≡ t
          → Gives (Of LimitsFit)
          (pick t
          (onward (u32_at s c) (λ k d. accepted (got (record { flag = f; least = n; most = Some k }) d)))
          (accepted (got (record { flag = f; least = n; most = None }) c)))
      by f n c h g true t =
          gives-onward (Of LimitsFit) (u32_at s c) _ (λ k d e3.
          gives-done (Of LimitsFit) _ (odd h (eqb-true (f % 2) 1 t) g (u32-in s c k d e3).1))
      by f n c h g false t = gives-done (Of LimitsFit) _ (even h (low f (eqb-false (f % 2) 1 t)) g)

  func-fit : (at : ℕ) → Gives (Of (DescFits 0)) (func_at s at)
  unfolding func_at Of
  func-fit at =
      gives-onward (Of (DescFits 0)) (u32_at s at) _ (λ x a e1.
      gives-done (Of (DescFits 0)) _ (function (u32-in s at x a e1).1))

  table-fit : (at : ℕ) → Gives (Of (DescFits 1)) (table_at s at)
  unfolding table_at Of Gives
  table-fit at =
      gives-onward (Of (DescFits 1)) (byte_at s at) _ (λ e a e1.
      gives-onward (Of (DescFits 1)) (limits_at s a) _ (λ m c e2.
      gives-done (Of (DescFits 1)) _ (tables (byte_small s bytes at e a e1) (limits-fit a (got m c) e2))))

  memory-fit : (at : ℕ) → Gives (Of (DescFits 2)) (memory_at s at)
  unfolding memory_at Of Gives
  memory-fit at =
      gives-onward (Of (DescFits 2)) (limits_at s at) _ (λ m a e1.
      gives-done (Of (DescFits 2)) _ (memories (limits-fit at (got m a) e1)))

  global-fit : (at : ℕ) → Gives (Of (DescFits 3)) (global_at s at)
  unfolding global_at Of
  global-fit at =
      gives-onward (Of (DescFits 3)) (byte_at s at) _ (λ t a e1.
      gives-onward (Of (DescFits 3)) (byte_at s a) _ (λ m c e2.
      gives-done (Of (DescFits 3)) _ (globals (byte_small s bytes at t a e1) (byte_small s bytes a m c e2))))

  desc-fit : (kind i at : ℕ) → Gives (Of (DescFits kind)) (desc_at s kind i at)
  unfolding desc_at
  desc-fit kind i at =
      by_kind (Of (DescFits kind)) kind 0 _ _ (λ h. is 0 h (func_at s at) (func-fit at))
      (by_kind (Of (DescFits kind)) kind 1 _ _ (λ h. is 1 h (table_at s at) (table-fit at))
      (by_kind (Of (DescFits kind)) kind 2 _ _ (λ h. is 2 h (memory_at s at) (memory-fit at))
      (by_kind (Of (DescFits kind)) kind 3 _ _ (λ h. is 3 h (global_at s at) (global-fit at))
      (gives-stop (Of (DescFits kind)) 5 (kind_at kind i)))))
    where
      is : (n : ℕ) → kind ≡ n → (x : Said (Got Desc)) → Gives (Of (DescFits n)) x → Gives (Of (DescFits kind)) x
      is n h x g = subst (λ (k : ℕ). Gives (Of (DescFits k)) x) (sym h) g

-- ---- entries: s lies in a file of n bytes, from base on
pub record SpokenOk (n : ℕ) (z : Sizes) (u : CustomSaid) : Type 0 where
  pub name-in-file : InFile n u.name
  pub inner-ok : NamesOk n z u.inner

pub record InnerOk (n : ℕ) (z : Sizes) (u : Inner) : Type 0 where
  pub name-in-file : InFile n u.name
  pub tables-ok : TablesOk n z u.tables

module _ (n : ℕ) (z : Sizes) where
  module _ (s : List ℕ) (bytes : Bytes s) (base : ℕ) (fits : base + length s ≤ n) where
    ranged : (at : ℕ) (p : Part) (d : ℕ) → name_at s at ≡ accepted (got p d) → base + p.from + p.len ≤ n
    ranged at p d e = let w = name_in s at p d e in omega (arith, w.end, w.in-s)

    import-ok : (at : ℕ) → Gives (Of (ImportOk n)) (import_at s base at)
    unfolding import_at Of Gives
    import-ok at =
        gives-onward (Of (ImportOk n)) (name_at s at) _ (λ m a e1.
        gives-onward (Of (ImportOk n)) (name_at s a) _ (λ f c e2.
        gives-onward (Of (ImportOk n)) (byte_at s c) _ (λ kind d e3.
        gives-onward (Of (ImportOk n)) (desc_at s kind c d) _ (λ desc e e4.
        let w = desc-fit s bytes kind c d (got desc e) e4 in
        gives-done (Of (ImportOk n)) _
        (record { module-in = ranged at m a e1; field_in = ranged a f c e2; kind-small = fits-small w; desc-fits = w })))))

    export_ok : (at : ℕ) → Gives (Of (ExportOk n)) (export_at s base at)
    unfolding export_at Of
    export_ok at =
        gives-onward (Of (ExportOk n)) (name_at s at) _ (λ p a e1.
        gives-onward (Of (ExportOk n)) (byte_at s a) _ (λ kind c e2.
        gives-onward (Of (ExportOk n)) (u32_at s c) _ (λ index d e3.
        gives-done (Of (ExportOk n)) _
        (record {
          name-in-file = ranged at p a e1;
          kind-byte = byte_small s bytes a kind c e2;
          index-small = (u32-in s c index d e3).1;
        }))))

    symbol-ok : (at : ℕ) → Gives (Of (SymbolOk n)) (symbol_at s base at)
    unfolding symbol_at Of
    symbol-ok at =
        gives-onward (Of (SymbolOk n)) (u32_at s at) _ (λ index a e1.
        gives-onward (Of (SymbolOk n)) (name_at s a) _ (λ p c e2.
        gives-done (Of (SymbolOk n)) _ (record { index-small = (u32-in s at index a e1).1; name-in-file = ranged a p c e2 })))

    -- what a subsection tells
    told-ok : (id : ℕ) (t : Names) → NamesOk n z t → Gives (Of (NamesOk n z)) (told_by id s base z.names t)
    unfolding told_by label_at symbols_of Gives Of Few
    told-ok id t h =
        gives-pick (Of (NamesOk n z)) (eqb id 0) _ _
        (gives-onward (Of (NamesOk n z)) (name_at s 0) _ (λ p e q.
        gives-done (Of (NamesOk n z)) _
        (record { label-in = labelled (ranged 0 p e q); symbols-ok = h.symbols-ok; symbols-few = h.symbols-few })))
        (gives-pick (Of (NamesOk n z)) (eqb id 1) _ _
        (gives-onward (Of (NamesOk n z)) _ _ (λ rows e q.
        gives-done (Of (NamesOk n z)) _
        (record {
          label-in = h.label-in;
          symbols-ok = gives-onward (Of (Each (SymbolOk n))) (u32_at s 0) _ (λ count at x.
              gives-entries (SymbolOk n) (symbol_at s base) symbol-ok 4 _ count at t.symbols h.symbols-ok) (got rows e) q;
          symbols-few = few-run (symbol_at s base) 4 _ s t.symbols h.symbols-few (got rows e) q;
        })))
        (gives-done (Of (NamesOk n z)) _ h))

  -- a part of the payload is a payload
  module _ (s : List ℕ) (bytes : Bytes s) (base : ℕ) (fits : base + length s ≤ n) where
    part-fits : (at : ℕ) (p : Part) (d : ℕ) → counted_at s at ≡ accepted (got p d) → base + p.from + length (part_bytes s p) ≤ n
    part-fits at p d e = let w = counted-in s at p d e in omega (arith, w.end, w.in-s, part_length s p)

    sub-ok : (at : ℕ) (t : Names) → NamesOk n z t → Gives (Of (NamesOk n z)) (subsection_at s base z.names at t)
    unfolding subsection_at Gives Of
    sub-ok at t h =
        gives-onward (Of (NamesOk n z)) (byte_at s at) _ (λ id a e1.
        gives-onward (Of (NamesOk n z)) (counted_at s a) _ (λ p d e2.
        gives-onward (Of (NamesOk n z)) _ _ (λ u e e3.
        gives-done (Of (NamesOk n z)) _
        (told-ok (part_bytes s p) (part_bytes-fit s p bytes) (base + p.from) (part-fits a p d e2) id t h (got u e)
        (relocated-got p.from _ e3)))))

    custom-ok : (t : Names) → NamesOk n z t → Gives (Of (SpokenOk n z)) (custom_at s base z.names t)
    unfolding custom_at Gives Of
    custom-ok t h =
        gives-onward (Of (SpokenOk n z)) (name_at s 0) _ (λ p at e1.
        gives-onward (Of (SpokenOk n z)) _ _ (λ u e e2.
        gives-done (Of (SpokenOk n z)) _
        (record {
          name-in-file = ranged s bytes base fits 0 p at e1;
          inner-ok = gives-pick (Of (NamesOk n z)) (same name_word (part_bytes s p)) _ _
              (gives-from (NamesOk n z) (subsection_at s base z.names) sub-ok s at t h)
              (gives-done (Of (NamesOk n z)) (got t at) h) (got u e) e2;
        })))

    contents-ok : (id : ℕ) (t : Tables) → TablesOk n z t → Gives (Of (InnerOk n z)) (contents_at id s base z t)
    unfolding contents_at imports_of exports_of Gives Of Few
    contents-ok id t h =
        gives-pick (Of (InnerOk n z)) (eqb id 0) _ _
        (gives-onward (Of (InnerOk n z)) (custom_at s base z.names t.names) _ (λ u e q.
        let k = custom-ok t.names h.names-ok (got u e) q in
        gives-done (Of (InnerOk n z)) _
        (record {
          name-in-file = k.name-in-file;
          tables-ok = record {
            sections-ok = h.sections-ok;
            sections-few = h.sections-few;
            imports-ok = h.imports-ok;
            imports-few = h.imports-few;
            exports-ok = h.exports-ok;
            exports-few = h.exports-few;
            names-ok = k.inner-ok;
          };
        })))
        (gives-pick (Of (InnerOk n z)) (eqb id 2) _ _
        (gives-onward (Of (InnerOk n z)) _ _ (λ rows e q.
        gives-done (Of (InnerOk n z)) _
        (record {
          name-in-file = omega arith;
          tables-ok = record {
            sections-ok = h.sections-ok;
            sections-few = h.sections-few;
            imports-ok = gives-onward (Of (Each (ImportOk n))) (u32_at s 0) _ (λ count at x.
                gives-entries (ImportOk n) (import_at s base) (import-ok s bytes base fits) 2 _ count at [] each_nil) (got rows e) q;
            imports-few = few-run (import_at s base) 2 _ s [] (omega arith) (got rows e) q;
            exports-ok = h.exports-ok;
            exports-few = h.exports-few;
            names-ok = h.names-ok;
          };
        })))
        (gives-pick (Of (InnerOk n z)) (eqb id 7) _ _
        (gives-onward (Of (InnerOk n z)) _ _ (λ rows e q.
        gives-done (Of (InnerOk n z)) _
        (record {
          name-in-file = omega arith;
          tables-ok = record {
            sections-ok = h.sections-ok;
            sections-few = h.sections-few;
            imports-ok = h.imports-ok;
            imports-few = h.imports-few;
            exports-ok = gives-onward (Of (Each (ExportOk n))) (u32_at s 0) _ (λ count at x.
                gives-entries (ExportOk n) (export_at s base) (export_ok s bytes base fits) 3 _ count at [] each_nil) (got rows e) q;
            exports-few = few-run (export_at s base) 3 _ s [] (omega arith) (got rows e) q;
            names-ok = h.names-ok;
          };
        })))
        (gives-done (Of (InnerOk n z)) _ (record { name-in-file = omega arith; tables-ok = h }))))

-- ---- sections
each_last : {E : Type 0} (P : E → Type 0) (es : List E) (e : E) → Each P es → P e → Each P (es ++ (e ∷ []))
each_last P [] e each_nil h = each-cons h each_nil
each_last P (x ∷ es) e (each-cons p a) h = each-cons p (each_last P es e a h)

apart-last : (a c e : ℕ) (rs : List Section) (r : Section) → Apart a rs c → c < r.from → r.from + r.size ≤ e
    → Apart a (rs ++ (r ∷ [])) e
apart-last a c e [] r (last h) f w = let k : a < r.from = omega (arith, h, f) in next k (last w)
apart-last a c e (x ∷ rs) r (next h more) f w = next h (apart-last (x.from + x.size) c e rs r more f w)

apart-up : (a c e : ℕ) (rs : List Section) → Apart a rs c → c ≤ e → Apart a rs e
apart-up a c e [] (last h) k = let w : a ≤ e = omega (arith, h, k) in last w
apart-up a c e (x ∷ rs) (next h more) k = next h (apart-up (x.from + x.size) c e rs more k)

module _ (b : List ℕ) (bytes : Bytes b) (z : Sizes) where
  -- what holds before the section at an offset
  record Before (at : ℕ) (t : Tables) : Type 0 where
    rows_ok : TablesOk (length b) z t
    apart : Apart 8 t.sections at
    in_b : at ≤ length b

  section-ok : (at : ℕ) (t u : Tables) (d : ℕ) → Before at t → section_at b z at t ≡ accepted (got u d) → Before d u
  unfolding Gives Of
  section-ok at t u d h e =
      let k = took b z at t u d e in
      let p = k.payload in
      let w = k.inner in
      let new = row_of k.id p w in
      let f : p.from + length (part_bytes b p) ≤ length b = omega (arith, k.ends, k.in_b, part_length b p) in
      let o =
      contents-ok (length b) z (part_bytes b p) (part_bytes-fit b p bytes) p.from f k.id t h.rows_ok (got w k.end) k.three in
      let r = o.tables-ok in
      let kept = contents-keep k.id (part_bytes b p) p.from z t w k.end k.three in
      record {
        rows_ok = rw k.is (record {
          sections-ok = each_last (SectionOk (length b)) w.tables.sections new r.sections-ok
              (record {
                id-byte = byte_small b bytes at k.id k.a k.one;
                payload-in = omega (arith, k.ends, k.in_b);
                name-in-file = o.name-in-file;
              });
          sections-few = omega (arith, k.room, length-append w.tables.sections (new ∷ []));
          imports-ok = r.imports-ok;
          imports-few = r.imports-few;
          exports-ok = r.exports-ok;
          exports-few = r.exports-few;
          names-ok = r.names-ok;
        });
        apart = rw k.is (apart-last 8 at d w.tables.sections new (rw kept h.apart) k.past (omega (arith, k.ends)));
        in_b = k.in_b;
      }

  nothing_yet : 8 ≤ length b → Before 8 no_tables
  unfolding no_tables
  nothing_yet h =
      let start : 8 ≤ 8 = omega arith in
      record {
        rows_ok = record {
          sections-ok = each_nil;
          sections-few = omega arith;
          imports-ok = each_nil;
          imports-few = omega arith;
          exports-ok = each_nil;
          exports-few = omega arith;
          names-ok = record { label-in = λ p e. absurd (none-some e); symbols-ok = each_nil; symbols-few = omega arith };
        };
        apart = last start;
        in_b = h;
      }

  module-ok : (m : Parsed) → module_at b z ≡ accepted m → ModuleOk b z m
  unfolding module_at Gives
  module-ok = gives-pick (ModuleOk b z) (ltb file_limit (length b)) _ _ (gives-stop (ModuleOk b z) 14 (spot 0))
      (gives-onward (ModuleOk b z) (header_at b) _ (λ v c e1.
      gives-onward (ModuleOk b z) (walk_from (section_at b z) b c no_tables) _ (λ t d e2.
      let h = header-only b v c e1 in
      let w =
      walk-out (section_at b z) b (λ i t u d q. let k = took b z i t u d q in (omega (arith, k.past, k.ends), k.in_b))
      (λ at t e u. Before at t → (d : ℕ) × Before d u) (λ at t k p. (at, p))
      (λ at t v u d e q more p. more (section-ok at t v d p q)) c no_tables t d e2
      (rw h.next-is (nothing_yet h.header.long)) in
      let k = w.1 in
      gives-done (ModuleOk b z) _
      (record {
        version-is = (rw h.version-is h.header.some, rw h.version-is (version-small b bytes));
        rows_ok = k.rows_ok;
        payloads-apart = apart-up 8 w.0 (length b) t.sections k.apart k.in_b;
      }))))

-- what the reader leaves never gives 15
pub rows-sound : RowsSound
rows-sound b z m bytes e = module-ok b bytes z m e
