-- A module of the port's grammar is accepted, where the tables have room, with rows that say exactly what it says. Assumes nothing.
use Prim.Native.Nat.{ℕ, ◌+◌, ◌≤◌, ◌<◌}
use native.Mathlib.Omega.{arith}
use mathlib.Core.Path.{◌≡◌, refl, ◌∙◌, ap}
use mathlib.Core.Bool.{Bool, true, false}
use mathlib.Core.List.{List, [], ◌∷◌, ◌++◌, append-nil}
use lib.ListN.{length, drop, length-drop, length-append}
use borrow.Author.Tests.{lt-ltb, le-ltb, ne_eqb}
use Rattle.std.specs.Prelude.{Some, None}
use Rattle.refusal.specs.Said.{accepted, relocated, got, onward}
use Rattle.refusal.specs.Sizes.{file_limit}
use Rattle.text.specs.Find.{same}
use Rattle.text.proofs.FindLaws.{same-is, same_self}
use Rattle.table.specs.Shape.{capacity_in}
use Rattle.table.specs.Walking.{walk_from}
use Rattle.table.proofs.Walking.{from_end, from-go}
use Rattle.refusal.specs.Each.{Each, each_nil, each-cons}
use Rattle.leb.specs.Reads.{part, part_bytes, byte_at}
use Rattle.wasm.specs.Entry.{moved}
use Rattle.wasm.specs.Entry.{moved}
use Rattle.wasm.specs.Custom.{Names, label_at, told_by, subsection_at, name_word, custom_at}
use Rattle.wasm.specs.Module.{Tables, with_section, with_imports, with_exports, with_names, Sizes, Inner, nameless, contents_at}
use Rattle.wasm.specs.Module.{add_section}
use Rattle.wasm.specs.Module.{section_at, no_tables, module_at}
use Rattle.conform.specs.Grammar.{SubOf, name_bytes}
use Rattle.conform.specs.Port.{Number, AnySub, Framed, framed, InARow, Held, SectionSaid, AnyContent, AnySection}
use Rattle.conform.specs.Port.{AnyModule}
use Rattle.conform.specs.Claims.{nil}
use Rattle.conform.specs.Claims.{name_or, functions_of, name_in, functions_in}
use Rattle.conform.specs.Claims.{subs_of, functions_all, HeldFits, FitsIn, Rows, AnyConform}
use Rattle.conform.proofs.Saying.{all_map, all_append, all-length, import-here, export-here, function-here}
use Rattle.conform.proofs.Saying.{Adds, adds-nothing, adds-more}
use Rattle.conform.proofs.Saying.{Leaves, Says, says_of, grown, Tells, tells-nothing, tells_more}
use Rattle.conform.proofs.Parts.{In, same-part, in-part}
use Rattle.conform.proofs.Sections.{row_of}
use Rattle.conform.proofs.Header.{header-reads}
use Rattle.conform.proofs.Conform.{PartStands, byte_reads, part-reads, name-reads}
use Rattle.conform.proofs.Conform.{imports-read, exports-read, functions-read}

-- what a subsection's bytes q, from a in the file, tell
module _ (b q : List ℕ) (a : ℕ) (in_b : In b a q) (size : length q < 18446744073709551616) (cells : ℕ) where
  record Telling (id : ℕ) (t : Names) (v : SubOf) : Type 0 where
    names : Names
    next : ℕ
    is : told_by id q a cells t ≡ accepted (got names next)
    adds : Adds b t names (functions_of v) (λ c. name_or c v)

  sub-tells : (id : ℕ) (t : Names) (v : SubOf) → AnySub id q v → length t.symbols + length (functions_of v) ≤ capacity_in 4 cells
      → Telling id t v
  unfolding told_by label_at onward
  sub-tells id t v (AnySub.modulename {a = n} {r = r} w) room =
      let m = name-reads q size 0 q n r refl w in
      record {
        names = record { label = Some (moved a m.range); symbols = t.symbols };
        next = m.next;
        is = rw m.is;
        adds = record {
          grows = omega arith;
          functions-are = λ gs h. rw (append-nil gs) h;
          name-is = λ c h. (moved a m.range, refl, same-part in_b m.range m.inside ∙ m.holds);
        };
      }
  sub-tells id t v (AnySub.funcnames {r = r} {vs = vs} w) room =
      let i = functions-read q size a cells r vs t.symbols w room in
      let st = i.1 in
      let here = all_map (function-here b q a in_b size) i.0 vs i.2 in
      record {
        names = record { label = t.label; symbols = t.symbols ++ i.0 };
        next = st.next;
        is = rw st.is;
        adds = record {
          grows = length-append t.symbols i.0 ∙ ap (λ (k : ℕ). length t.symbols + k) (all-length i.0 vs i.2);
          functions-are = λ gs h. all_append t.symbols i.0 gs vs h here;
          name-is = λ c h. h;
        };
      }
  sub-tells id t v (AnySub.others h) room =
      record {
        names = t;
        next = 0;
        is = rw (ne_eqb id 0 (λ e. omega arith), ne_eqb id 1 (λ e. omega arith));
        adds = adds-nothing b t;
      }

-- subsections to the end of s
module _ (b s : List ℕ) (base : ℕ) (in_b : In b base s) (size : length s < 18446744073709551616) (cells : ℕ) where
  record Walked (at : ℕ) (t : Names) (vs : List SubOf) : Type 0 where
    names : Names
    next : ℕ
    is : walk_from (subsection_at s base cells) s at t ≡ accepted (got names next)
    adds : Adds b t names (functions_in vs) (λ c. name_in c vs)

  subs-tell : (at : ℕ) (l : List ℕ) (t : Names) (vs : List SubOf) → drop at s ≡ l → at ≤ length s → InARow (Framed AnySub) l vs []
      → length t.symbols + length (functions_in vs) ≤ capacity_in 4 cells → Walked at t vs
  unfolding functions_in name_in subsection_at onward relocated
  subs-tell at l t [] e k InARow.done room =
      let n : length (drop at s) ≡ 0 = ap length e in
      record {
        names = t;
        next = at;
        is = from_end (subsection_at s base cells) s at t (omega (arith, n, length-drop at s));
        adds = adds-nothing b t;
      }
  subs-tell at l t (v ∷ vs) e k (InARow.then (framed {id = id} {l = m} {p = p} {r = r} u x) more) room =
      let one = byte_reads s size at id m e in
      let g = part-reads s size (at + 1) m p r one.1 u in
      let in-s : In s g.start p = record { holds = g.holds; inside = g.inside } in
      let n = length-append (functions_of v) (functions_in vs) in
      let o =
      sub-tells b p (base + g.start) (in-part in_b g.start p in-s) (omega (arith, g.inside)) cells id t v x
      (omega (arith, n)) in
      let step : subsection_at s base cells at t ≡ accepted (got o.names (g.start + length p)) =
      rw (one.0, g.is, g.holds, o.is) in
      let i = subs-tell (g.start + length p) r o.names vs g.rest g.inside more (omega (arith, n, o.adds.grows)) in
      record {
        names = i.names;
        next = i.next;
        is = from-go (subsection_at s base cells) s at t o.names (g.start + length p) step (omega (arith, g.past)) g.inside ∙ i.is;
        adds = adds-more b t o.names i.names _ _ (λ c. name_or c v) (λ c. name_in c vs) o.adds i.adds;
      }

-- ---- sections
module _ (b : List ℕ) (size : length b < 18446744073709551616) (z : Sizes) where
  -- what a section's contents come to
  record Contained (id : ℕ) (p : List ℕ) (a : ℕ) (t : Tables) (c : Held) : Type 0 where
    inner : Inner
    next : ℕ
    is : contents_at id p a z t ≡ accepted (got inner next)
    leaves : Leaves b t inner c

  content-reads : (id : ℕ) (p : List ℕ) (a : ℕ) (t : Tables) (c : Held) → In b a p → AnyContent id p c → HeldFits z c
      → length t.names.symbols + length (functions_in (subs_of c)) ≤ capacity_in 4 z.names → Contained id p a t c
  unfolding contents_at custom_at onward functions_in name_in name_word
  content-reads id p a t c i (AnyContent.imports {r = r} {vs = vs} w) fits room =
      let ps : length p < 18446744073709551616 = omega (arith, i.inside) in
      let o = imports-read p ps a z.imports r vs w fits in
      let st = o.1 in
      record {
        inner = nameless (with_imports t o.0);
        next = st.next;
        is = rw st.is;
        leaves = record {
          keeps = refl;
          title-is = refl;
          imports-are = λ xs h. all_map (import-here b p a i ps) o.0 vs o.2;
          exports-are = λ xs h. h;
          adds = adds-nothing b t.names;
        };
      }
  content-reads id p a t c i (AnyContent.exports {r = r} {vs = vs} w) fits room =
      let ps : length p < 18446744073709551616 = omega (arith, i.inside) in
      let o = exports-read p ps a z.exports r vs w fits in
      let st = o.1 in
      record {
        inner = nameless (with_exports t o.0);
        next = st.next;
        is = rw st.is;
        leaves = record {
          keeps = refl;
          title-is = refl;
          imports-are = λ xs h. h;
          exports-are = λ xs h. all_map (export-here b p a i ps) o.0 vs o.2;
          adds = adds-nothing b t.names;
        };
      }
  content-reads id p a t c i (AnyContent.unread n0 n2 n7) fits room =
      record {
        inner = nameless t;
        next = 0;
        is = rw (ne_eqb id 0 n0, ne_eqb id 2 n2, ne_eqb id 7 n7);
        leaves = record {
          keeps = refl;
          title-is = refl;
          imports-are = λ xs h. h;
          exports-are = λ xs h. h;
          adds = adds-nothing b t.names;
        };
      }
  content-reads id p a t c i (AnyContent.custom {n = n} {q = q} w other) fits room =
      let ps : length p < 18446744073709551616 = omega (arith, i.inside) in
      let m = name-reads p ps 0 p n q refl w in
      let f : same name_bytes (part_bytes p m.range) ≡ false = rw m.holds (different (same name_bytes n) refl) in
      record {
        inner = record { name = moved a m.range; tables = with_names t t.names };
        next = m.next;
        is = rw (m.is, f);
        leaves = record {
          keeps = refl;
          title-is = same-part i m.range m.inside ∙ m.holds;
          imports-are = λ xs h. h;
          exports-are = λ xs h. h;
          adds = adds-nothing b t.names;
        };
      }
    where
      different : (x : Bool) → same name_bytes n ≡ x → same name_bytes n ≡ false
      different true e = absurd (other (same-is name_bytes n e))
      different false e = e
  content-reads id p a t c i (AnyContent.names {q = q} {vs = vs} w x) fits room =
      let ps : length p < 18446744073709551616 = omega (arith, i.inside) in
      let m = name-reads p ps 0 p name_bytes q refl w in
      let f : same name_bytes (part_bytes p m.range) ≡ true = rw m.holds (same_self name_bytes) in
      let o = subs-tell b p a i ps z.names m.next q t.names vs m.rest m.in-s x room in
      record {
        inner = record { name = moved a m.range; tables = with_names t o.names };
        next = o.next;
        is = rw (m.is, f, o.is);
        leaves = record {
          keeps = refl;
          title-is = same-part i m.range m.inside ∙ m.holds;
          imports-are = λ xs h. h;
          exports-are = λ xs h. h;
          adds = o.adds;
        };
      }

  -- a section that was framed and whose contents were read
  frame : (at id e : ℕ) (p r : List ℕ) (t : Tables) (u : Inner) → byte_at b at ≡ accepted (got id (at + 1))
      → (g : PartStands b size (at + 1) p r) → contents_at id p g.start z t ≡ accepted (got u e)
      → length u.tables.sections < capacity_in 1 z.sections
      → section_at b z at t
      ≡ accepted (got (with_section u.tables (row_of id (part g.start (length p)) u)) (g.start + length p))
  unfolding section_at onward relocated add_section
  frame at id e p r t u one g c room = rw (one, g.is, g.holds, c, lt-ltb _ _ room)

  -- a section: its each-cons, and what the tables then say
  record Stepped (at : ℕ) (t : Tables) (v : SectionSaid) (r : List ℕ) : Type 0 where
    tables : Tables
    next : ℕ
    is : section_at b z at t ≡ accepted (got tables next)
    rest : drop next b ≡ r
    past : at < next
    in_b : next ≤ length b
    says : Says b t tables v

  section-reads : (at id : ℕ) (l m p r : List ℕ) (t : Tables) (c : Held) → drop at b ≡ id ∷ m → Number m (length p) (p ++ r)
      → AnyContent id p c → HeldFits z c → length t.sections < capacity_in 1 z.sections
      → length t.names.symbols + length (functions_in (subs_of c)) ≤ capacity_in 4 z.names
      → Stepped at t (record { id = id; payload = p; holds = c }) r
  section-reads at id l m p r t c e u x fits room names =
      let one = byte_reads b size at id m e in
      let g = part-reads b size (at + 1) m p r one.1 u in
      let o = content-reads id p g.start t c (record { holds = g.holds; inside = g.inside }) x fits names in
      let w = o.inner in
      let new = row_of id (part g.start (length p)) w in
      let kept : length w.tables.sections ≡ length t.sections = ap length o.leaves.keeps in
      record {
        tables = with_section w.tables new;
        next = g.start + length p;
        is = frame at id o.next p r t w one.0 g o.is (omega (arith, kept));
        rest = g.rest;
        past = omega (arith, g.past);
        in_b = g.inside;
        says = says_of b p id (part g.start (length p)) t w c g.holds o.leaves;
      }

  step-reads : (at : ℕ) (l r : List ℕ) (v : SectionSaid) (t : Tables) → drop at b ≡ l → Framed AnySection l v r → FitsIn z v
      → length t.sections < capacity_in 1 z.sections
      → length t.names.symbols + length (functions_in (subs_of v.holds)) ≤ capacity_in 4 z.names → Stepped at t v r
  unfolding FitsIn
  step-reads at l r v t e (framed {id = id} {l = m} {p = p} u (AnySection.section {c = c} x)) fits room names =
      section-reads at id l m p r t c e u x fits room names

  -- sections to the end of the file
  record Read (at : ℕ) (t : Tables) (vs : List SectionSaid) : Type 0 where
    tables : Tables
    next : ℕ
    is : walk_from (section_at b z) b at t ≡ accepted (got tables next)
    tells : Tells b t tables vs

  sections-read : (at : ℕ) (l : List ℕ) (vs : List SectionSaid) (t : Tables) → drop at b ≡ l → at ≤ length b
      → InARow (Framed AnySection) l vs [] → Each (FitsIn z) vs → length t.sections + length vs ≤ capacity_in 1 z.sections
      → length t.names.symbols + length (functions_all vs) ≤ capacity_in 4 z.names → Read at t vs
  unfolding functions_all
  sections-read at l [] t e k InARow.done each_nil room names =
      let n : length (drop at b) ≡ 0 = ap length e in
      record {
        tables = t;
        next = at;
        is = from_end (section_at b z) b at t (omega (arith, n, length-drop at b));
        tells = tells-nothing b t;
      }
  sections-read at l (v ∷ vs) t e k (InARow.then {m = m} x more) (each-cons f others) room names =
      let n = length-append (functions_in (subs_of v.holds)) (functions_all vs) in
      let o = step-reads at l m v t e x f (omega arith) (omega (arith, n)) in
      let i =
      sections-read o.next m vs o.tables o.rest o.in_b more others (omega (arith, grown o.says))
      (omega (arith, n, o.says.adds.grows)) in
      record {
        tables = i.tables;
        next = i.next;
        is = from-go (section_at b z) b at t o.tables o.next o.is o.past o.in_b ∙ i.is;
        tells = tells_more b t o.tables i.tables v vs o.says i.tells;
      }

-- ---- a module
-- from empty tables
pub rows_of : (b : List ℕ) (t : Tables) (vs : List SectionSaid) → Tells b no_tables t vs → Rows b t vs
unfolding no_tables
rows_of b t vs h =
    record {
      sections-are = h.sections-are [] nil;
      imports-are = h.imports-are [] nil;
      exports-are = h.exports-are [] nil;
      functions-are = h.adds.functions-are [] nil;
      name-is = h.adds.name-is None refl;
    }

-- whatever the port's grammar derives is read as exactly that
pub any-conform : AnyConform
unfolding module_at onward no_tables
any-conform b z vs short room (AnyModule.modul h s) =
    let i =
    sections-read b (omega arith) z 8 (drop 8 b) vs no_tables refl h.long s room.entries
    (omega (arith, room.sections)) (omega (arith, room.functions)) in
    record {
      tables = i.tables;
      is = rw (le-ltb file_limit (length b) short, header-reads b h, i.is);
      rows = rows_of b i.tables vs i.tells;
    }
