-- Entries: what the port's grammar derives is read as exactly that. Limits, descriptors, imports, exports, function names, and runs of
-- them. Assumes nothing.
use Prim.Native.Nat.{ℕ, zero, suc, ◌+◌, ◌-◌, ◌≤◌, ◌<◌}
use native.Mathlib.Numerals.{add-one}
use native.Mathlib.Omega.{arith}
use mathlib.Core.Path.{◌≡◌, refl, sym, ◌∙◌, ap, subst}
use mathlib.Core.Bool.{true}
use mathlib.Core.List.{List, [], ◌∷◌, ◌++◌, append_assoc, append-nil}
use lib.ListN.{length, get_or, take, drop, length-drop, length-append}
use lib.Seq.{drop-cons, drop-drop, take_at, drop_at}
use lib.Dec.{eqb}
use borrow.Author.Tests.{lt-ltb, le-ltb, le-leb, eq-eqb}
use Rattle.refusal.specs.Said.{Said, accepted, Got, got, onward}
use Rattle.refusal.specs.declared.Part.{Part}
use Rattle.text.specs.Utf8.{up_to}
use Rattle.table.specs.Shape.{capacity_in}
use Rattle.table.specs.Entries.{entries_from}
use Rattle.leb.specs.Grammar.{U}
use Rattle.leb.specs.Reads.{part, part_bytes, byte_at, u32_at, taken_at, counted_at, checked, name_at}
use Rattle.leb.proofs.Beyond.{u32-long}
use Rattle.leb.proofs.Bounds.{u32-in}
use Rattle.wasm.specs.Shapes.{Limits, Desc, Import, Export, Symbol}
use Rattle.wasm.specs.Entry.{limits_at, func_at, table_at, memory_at, global_at, desc_at, moved, import_at, export_at, symbol_at}
use Rattle.wasm.specs.Rows.{imports_of, exports_of, symbols_of}
use Rattle.conform.specs.Grammar.{Many, none, more, FunctionOf}
use Rattle.conform.specs.Port.{Number, number, Named, named, Counted, counted, AnyLimits, even, odd, AnyDesc, function, tables}
use Rattle.conform.specs.Port.{memories}
use Rattle.conform.specs.Port.{globals, ImportSaid, AnyImport, imported, ExportSaid, AnyExport, exported, AnyAssoc, assoc}
use Rattle.conform.specs.Claims.{Pairwise, nil, cons}

module _ (s : List ℕ) (size : length s < 18446744073709551616) where
  -- a reading finds v and leaves r
  pub record Stands {X : Type 0} (x : Said (Got X)) (v : X) (r : List ℕ) : Type 0 where
    pub next : ℕ
    pub is : x ≡ accepted (got v next)
    pub rest : drop next s ≡ r

  -- a byte
  pub byte_reads : (at x : ℕ) (l : List ℕ) → drop at s ≡ x ∷ l → (byte_at s at ≡ accepted (got x (at + 1))) × (drop (at + 1) s ≡ l)
  unfolding byte_at
  byte_reads at x l e =
      let n : length (drop at s) ≡ suc (length l) = ap length e in
      let h : at < length s = omega (arith, length-drop at s, n) in
      let c = drop-cons s at 0 h in
      let a : get_or s at 0 ≡ x = cc in
      let b : drop (suc at) s ≡ l = cc in
      (rw (lt-ltb at (length s) h, a), ap (λ (k : ℕ). drop k s) (add-one at) ∙ b)

  -- a number
  pub u32-reads : (at v : ℕ) (l r : List ℕ) → drop at s ≡ l → Number l v r → Stands (u32_at s at) v r
  u32-reads at v l r e (number {k = k} d h) =
      record {
        next = at + k;
        is = u32-long s at v k (subst (λ (x : List ℕ). U 64 x v k) (sym e) d) h;
        rest = sym (drop-drop k at s) ∙ ap (drop k) e;
      }

  -- limits
  pub limits-reads : (at : ℕ) (l r : List ℕ) (m : Limits) → drop at s ≡ l → AnyLimits l m r → Stands (limits_at s at) m r
  unfolding limits_at onward
  limits-reads at l r m e (even {l = k} {f = f} {n = n} h u) =
      let b = byte_reads at f k e in
      let g = u32-reads (at + 1) n k r b.1 u in
      record { next = g.next; is = rw (b.0, g.is, h); rest = g.rest }
  limits-reads at l r m e (odd {l = i} {m = j} {f = f} {n = n} {k = k} h u w) =
      let b = byte_reads at f i e in
      let g = u32-reads (at + 1) n i j b.1 u in
      let o = u32-reads g.next k j r g.rest w in
      record { next = o.next; is = rw (b.0, g.is, h, o.is); rest = o.rest }

  -- what follows a kind byte
  pub desc-reads : (kind i at : ℕ) (l r : List ℕ) (d : Desc) → drop at s ≡ l → AnyDesc kind l d r → Stands (desc_at s kind i at) d r
  unfolding desc_at func_at table_at memory_at global_at onward
  desc-reads kind i at l r d e (function {x = x} u) =
      let g = u32-reads at x l r e u in
      record { next = g.next; is = rw g.is; rest = g.rest }
  desc-reads kind i at l r d e (tables {l = k} {e = t} {m = m} u) =
      let y = byte_reads at t k e in
      let g = limits-reads (at + 1) k r m y.1 u in
      record { next = g.next; is = rw (y.0, g.is); rest = g.rest }
  desc-reads kind i at l r d e (memories {m = m} u) =
      let g = limits-reads at l r m e u in
      record { next = g.next; is = rw g.is; rest = g.rest }
  desc-reads kind i at l r d e (globals {t = t} {m = m}) =
      let y = byte_reads at t (m ∷ r) e in
      let w = byte_reads (at + 1) m r y.1 in
      record { next = at + 1 + 1; is = rw (y.0, w.0); rest = w.1 }

  -- a length and as many bytes
  pub record PartStands (at : ℕ) (p r : List ℕ) : Type 0 where
    pub start : ℕ
    pub is : counted_at s at ≡ accepted (got (part start (length p)) (start + length p))
    pub holds : take (length p) (drop start s) ≡ p
    pub here : drop start s ≡ p ++ r
    pub rest : drop (start + length p) s ≡ r
    pub past : at < start
    pub inside : start + length p ≤ length s

  -- a size and so many bytes are read
  pub part-reads : (at : ℕ) (l p r : List ℕ) → drop at s ≡ l → Number l (length p) (p ++ r) → PartStands at p r
  unfolding counted_at taken_at onward
  part-reads at l p r e u =
      let g = u32-reads at (length p) l (p ++ r) e u in
      let a = g.next in
      let ahead = (u32-in s at (length p) a g.is).0 in
      let n : length (drop a s) ≡ length p + length r = ap length g.rest ∙ length-append p r in
      let h : a + length p ≤ length s = omega (arith, n, length-drop a s, ahead.in-s) in
      record {
        start = a;
        is = rw (
          g.is,
          le-ltb (length s) a (omega arith),
          le-ltb (18446744073709551615 - a) (length p) (omega arith),
          le-leb (a + length p) (length s) h,
        );
        holds = ap (take (length p)) g.rest ∙ take_at p r (length p) refl;
        here = g.rest;
        rest = sym (drop-drop (length p) a s) ∙ ap (drop (length p)) g.rest ∙ drop_at p r (length p) refl;
        past = ahead.past;
        inside = h;
      }

  -- a name: a range of s that holds its bytes
  pub record NameStands (at : ℕ) (b r : List ℕ) : Type 0 where
    pub range : Part
    pub next : ℕ
    pub is : name_at s at ≡ accepted (got range next)
    pub holds : part_bytes s range ≡ b
    pub rest : drop next s ≡ r
    pub inside : range.from + range.len ≤ length s
    pub in-s : next ≤ length s

  -- a name is read
  pub name-reads : (at : ℕ) (l b r : List ℕ) → drop at s ≡ l → Named l b r → NameStands at b r
  unfolding name_at checked onward
  name-reads at l b r e (named u w) =
      let g = part-reads at l b r e u in
      let c : eqb (up_to (take (length b) (drop g.start s))) (length b) ≡ true = eq-eqb _ _ (ap up_to g.holds ∙ w) in
      record {
        range = part g.start (length b);
        next = g.start + length b;
        is = rw (g.is, c);
        holds = g.holds;
        rest = g.rest;
        inside = g.inside;
        in-s = g.inside;
      }

  -- an entry, of which row and value agree by R
  pub record Entry {X E : Type 0} (R : E → X → Type 0) (x : Said (Got E)) (v : X) (r : List ℕ) : Type 0 where
    pub row : E
    pub next : ℕ
    pub is : x ≡ accepted (got row next)
    pub agrees : R row v
    pub rest : drop next s ≡ r

  -- an import's row, of ranges of s; s starts at base in the file
  pub record ImportRow (base : ℕ) (row : Import) (v : ImportSaid) : Type 0 where
    pub first : Part
    pub second : Part
    pub row_is : row ≡ record { «module» = moved base first; field = moved base second; kind = v.kind; desc = v.desc }
    pub module-is : part_bytes s first ≡ v.from
    pub field_is : part_bytes s second ≡ v.name
    pub first-in : first.from + first.len ≤ length s
    pub second-in : second.from + second.len ≤ length s

  -- an import is read
  pub import-reads : (base at : ℕ) (l r : List ℕ) (v : ImportSaid) → drop at s ≡ l → AnyImport l v r
      → Entry (ImportRow base) (import_at s base at) v r
  unfolding import_at onward
  import-reads base at l r v e (imported {m = m} {k = k} {a = a} {b = b} {kind = kind} {d = d} x y z) =
      let p = name-reads at l a m e x in
      let q = name-reads p.next m b (kind ∷ k) p.rest y in
      let o = byte_reads q.next kind k q.rest in
      let t = desc-reads kind q.next (q.next + 1) k r d o.1 z in
      record {
        row = record { «module» = moved base p.range; field = moved base q.range; kind = kind; desc = d };
        next = t.next;
        is = rw (p.is, q.is, o.0, t.is);
        agrees = record {
          first = p.range;
          second = q.range;
          row_is = refl;
          module-is = p.holds;
          field_is = q.holds;
          first-in = p.inside;
          second-in = q.inside;
        };
        rest = t.rest;
      }

  pub record ExportRow (base : ℕ) (row : Export) (v : ExportSaid) : Type 0 where
    pub first : Part
    pub row_is : row ≡ record { name = moved base first; kind = v.kind; index = v.index }
    pub name-is : part_bytes s first ≡ v.name
    pub first-in : first.from + first.len ≤ length s

  -- an export is read
  pub export-reads : (base at : ℕ) (l r : List ℕ) (v : ExportSaid) → drop at s ≡ l → AnyExport l v r
      → Entry (ExportRow base) (export_at s base at) v r
  unfolding export_at onward
  export-reads base at l r v e (exported {m = m} {a = a} {kind = k} {x = x} y z) =
      let p = name-reads at l a (k ∷ m) e y in
      let b = byte_reads p.next k m p.rest in
      let g = u32-reads (p.next + 1) x m r b.1 z in
      record {
        row = record { name = moved base p.range; kind = k; index = x };
        next = g.next;
        is = rw (p.is, b.0, g.is);
        agrees = record { first = p.range; row_is = refl; name-is = p.holds; first-in = p.inside };
        rest = g.rest;
      }

  pub record FunctionRow (base : ℕ) (row : Symbol) (v : FunctionOf) : Type 0 where
    pub first : Part
    pub row_is : row ≡ record { index = v.index; name = moved base first }
    pub name-is : part_bytes s first ≡ v.name
    pub first-in : first.from + first.len ≤ length s

  -- a function name is read
  pub function-reads : (base at : ℕ) (l r : List ℕ) (v : FunctionOf) → drop at s ≡ l → AnyAssoc l v r
      → Entry (FunctionRow base) (symbol_at s base at) v r
  unfolding symbol_at onward
  function-reads base at l r v e (assoc {m = m} {a = a} {x = x} u y) =
      let g = u32-reads at x l m e u in
      let p = name-reads g.next m a r g.rest y in
      record {
        row = record { index = x; name = moved base p.range };
        next = p.next;
        is = rw (g.is, p.is);
        agrees = record { first = p.range; row_is = refl; name-is = p.holds; first-in = p.inside };
        rest = p.rest;
      }

  -- a run of entries: the rows are those that were there and those of the grammar
  module _ {X E : Type 0} (B : List ℕ → X → List ℕ → Type 0) (R : E → X → Type 0) (read : ℕ → Said (Got E))
      (reads : (at : ℕ) (l r : List ℕ) (v : X) → drop at s ≡ l → B l v r → Entry R (read at) v r) (tn room : ℕ) where
    -- what the run comes to
    pub record Run (x : Said (Got (List E))) (rows : List E) (vs : List X) (r : List ℕ) : Type 0 where
      pub new : List E
      pub stands : Stands x (rows ++ new) r
      pub agree : Pairwise R new vs

    many-reads : (n at : ℕ) (l r : List ℕ) (vs : List X) (rows : List E) → drop at s ≡ l → length rows + length vs ≤ room
        → Many B n l vs r → Run (entries_from read tn room n at rows) rows vs r
    unfolding entries_from onward
    many-reads zero at l r [] rows e h none =
        record { new = []; stands = record { next = at; is = rw (append-nil rows); rest = e }; agree = nil }
    many-reads zero at l r (v ∷ vs) rows e h x = elim x [ ]
    many-reads (suc n) at l r [] rows e h x = elim x [ ]
    many-reads (suc n) at l r (v ∷ vs) rows e h (more {m = m} x y) =
        let g = reads at l m v e x in
        let k : length (rows ++ (g.row ∷ [])) ≡ length rows + 1 = length-append rows (g.row ∷ []) in
        let i = many-reads n g.next m r vs (rows ++ (g.row ∷ [])) g.rest (omega (arith, k)) y in
        let f : length rows < room = omega arith in
        let t = i.stands in
        record {
          new = g.row ∷ i.new;
          stands = record {
            next = t.next;
            is = rw (g.is, lt-ltb (length rows) room f) (t.is ∙ rw (append_assoc rows (g.row ∷ []) i.new));
            rest = t.rest;
          };
          agree = cons g.agrees i.agree;
        }

    -- a count and so many, at the start of s
    pub counted-reads : (r : List ℕ) (vs : List X) (rows : List E) → length rows + length vs ≤ room → Counted B s vs r
        → Run (onward (u32_at s 0) (λ count at. entries_from read tn room count at rows)) rows vs r
    unfolding onward
    counted-reads r vs rows h (counted {m = m} {n = n} u w) =
        let g = u32-reads 0 n s m refl u in
        let i = many-reads n g.next m r vs rows g.rest h w in
        rw g.is i

  -- payloads, where the tables have room: the rows are exactly what the specification says
  module _ (base cells : ℕ) (r : List ℕ) where
    pub imports-read : (vs : List ImportSaid) → Counted AnyImport s vs r → length vs ≤ capacity_in 2 cells
        → (es : List Import) × Stands (imports_of s base cells) es r × Pairwise (ImportRow base) es vs
    unfolding imports_of
    imports-read vs w h =
        let i =
        counted-reads AnyImport (ImportRow base) (import_at s base) (import-reads base) 2 (capacity_in 2 cells) r vs []
        (omega arith) w in
        (i.new, i.stands, i.agree)

    pub exports-read : (vs : List ExportSaid) → Counted AnyExport s vs r → length vs ≤ capacity_in 3 cells
        → (es : List Export) × Stands (exports_of s base cells) es r × Pairwise (ExportRow base) es vs
    unfolding exports_of
    exports-read vs w h =
        let i =
        counted-reads AnyExport (ExportRow base) (export_at s base) (export-reads base) 3 (capacity_in 3 cells) r vs []
        (omega arith) w in
        (i.new, i.stands, i.agree)

    pub functions-read : (vs : List FunctionOf) (rows : List Symbol) → Counted AnyAssoc s vs r
        → length rows + length vs ≤ capacity_in 4 cells
        → (es : List Symbol) × Stands (symbols_of s base cells rows) (rows ++ es) r × Pairwise (FunctionRow base) es vs
    unfolding symbols_of
    functions-read vs rows w h =
        let i =
        counted-reads AnyAssoc (FunctionRow base) (symbol_at s base) (function-reads base) 4 (capacity_in 4 cells) r vs rows h w in
        (i.new, i.stands, i.agree)
