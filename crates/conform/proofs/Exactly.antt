-- Whatever is accepted the port's grammar derives, and the rows say exactly what it says. The other direction of Whole.antt.
-- Assumes nothing.
use Prim.Native.Nat.{ℕ, ◌+◌, ◌≤◌, ◌<◌}
use native.Mathlib.Omega.{arith}
use mathlib.Core.Path.{◌≡◌, refl, sym, ◌∙◌, ap, subst}
use mathlib.Core.Bool.{Bool, true, false}
use mathlib.Core.List.{List, [], ◌∷◌, ◌++◌}
use lib.ListN.{length, drop, length-append, length-drop}
use lib.Seq.{length-take-le}
use lib.Dec.{ltb}
use borrow.Author.Tests.{ltb-false}
use Rattle.std.specs.Prelude.{Some}
use Rattle.refusal.specs.Pick.{pick}
use Rattle.refusal.specs.Sizes.{file_limit}
use Rattle.refusal.specs.Said.{accepted, refused, got, onward, spot}
use Rattle.refusal.specs.declared.Part.{Part}
use Rattle.refusal.proofs.Following.{never, read-on}
use Rattle.text.specs.Find.{same}
use Rattle.text.proofs.FindLaws.{same-is, same_self}
use Rattle.table.specs.Shape.{capacity_in}
use Rattle.table.specs.Walking.{walk_from}
use Rattle.refusal.specs.Each.{Each, each_nil, each-cons}
use Rattle.table.proofs.Giving.{Gives, Of}
use Rattle.leb.specs.Reads.{part, part_bytes, name_at}
use Rattle.wasm.specs.Shapes.{Import, Export, Symbol}
use Rattle.wasm.specs.Entry.{import_at, export_at, symbol_at, moved}
use Rattle.wasm.specs.Rows.{imports_of, exports_of, symbols_of}
use Rattle.wasm.specs.Custom.{Names, label_at, told_by, subsection_at, name_word, CustomSaid, custom_at}
use Rattle.wasm.specs.Module.{Tables, with_names, Sizes, Inner, contents_at, section_at, header_at, no_tables}
use Rattle.wasm.specs.Module.{Parsed, module_at}
use Rattle.conform.specs.Grammar.{FunctionOf, SubOf, module_name, function_names, name_bytes}
use Rattle.conform.specs.Port.{Named, AnyImport, AnyExport, AnyAssoc, AnySub, Framed, framed, InARow, Held, SectionSaid}
use Rattle.conform.specs.Port.{AnyContent, AnySection, AnyModule}
use Rattle.conform.specs.Claims.{Pairwise, ImportHere, ExportHere, functions_of, name_or, name_in, functions_in, Derives, OnlyThese}
use Rattle.conform.specs.Claims.{functions_all, HeldFits, FitsIn}
use Rattle.conform.specs.Sound.{ModuleOk}
use Rattle.conform.proofs.Sound.{Few, few-run, rows-sound}
use Rattle.conform.proofs.Parts.{In, same-part, in-part}
use Rattle.conform.proofs.Header.{header-only}
use Rattle.conform.proofs.Walks.{same-got, walk-out}
use Rattle.conform.proofs.Sections.{took, took-sub}
use Rattle.conform.proofs.Conform.{ImportRow, ExportRow, FunctionRow}
use Rattle.conform.proofs.Saying.{all_map, all_append, all-length, import-here, export-here, function-here, Adds, adds-nothing}
use Rattle.conform.proofs.Saying.{adds-more, Leaves, Says, says_of, Tells, tells-nothing, tells_more}
use Rattle.conform.proofs.Whole.{rows_of}
use Rattle.conform.proofs.Only.{either, only-byte, only-counted, only-name, only-import, only-export, only-function, only-run}

-- a range that was taken lies in the bytes
taken_in : (b : List ℕ) (p : Part) (d : ℕ) → p.from + p.len ≡ d → d ≤ length b → In b p.from (part_bytes b p)
taken_in b p d e h =
    let n : length (part_bytes b p) ≡ p.len =
    length-take-le p.len (drop p.from b) (omega (arith, length-drop p.from b)) in
    record { holds = ap (λ (k : ℕ). part_bytes b (part p.from k)) n; inside = omega (arith, n) }

drop_all : (at : ℕ) (l : List ℕ) → length l ≤ at → drop at l ≡ []
drop_all at l h = nothing (drop at l) (omega (arith, length-drop at l))
  where
    nothing : (l : List ℕ) → length l ≡ 0 → l ≡ []
    nothing [] e = refl
    nothing (x ∷ l) e = absurd (omega (arith, e))

-- ---- what a subsection's bytes q, from a in the file, tell
module _ (b q : List ℕ) (a : ℕ) (in_b : In b a q) (size : length q < 18446744073709551616) (cells : ℕ) where
  record Heard (id : ℕ) (t u : Names) : Type 0 where
    value : SubOf
    derives : AnySub id q value
    adds : Adds b t u (functions_of value) (λ c. name_or c value)

  heard : (id : ℕ) (t u : Names) (d : ℕ) → told_by id q a cells t ≡ accepted (got u d) → Heard id t u
  unfolding told_by label_at symbols_of
  heard id t u d e =
      either id 0 _ _ (got u d) _ e
      (λ h f.
      let o = read-on (name_at q 0) _ f in
      let p = only-name q size 0 o.what o.next o.first in
      record {
        value = module_name (part_bytes q o.what);
        derives = subst (λ (i : ℕ). AnySub i q (module_name (part_bytes q o.what))) (sym h) (AnySub.modulename p.0);
        adds = subst (λ (x : Names). Adds b t x [] (λ c. name_or c (module_name (part_bytes q o.what)))) (same-got o.then).0
            (label t o.what p.1);
      })
      (λ n0 f.
      either id 1 _ _ (got u d) _ f
      (λ h g.
      let o = read-on _ _ g in
      let i =
      only-run q size AnyAssoc (FunctionRow q size a) (symbol_at q a) (only-function q size a) 4 _ t.symbols o.what o.next
      o.first in
      record {
        value = function_names i.values;
        derives = subst (λ (k : ℕ). AnySub k q (function_names i.values)) (sym h) (AnySub.funcnames i.derives);
        adds = subst (λ (x : Names). Adds b t x i.values (λ c. c)) (same-got o.then).0
            (rows t o.what i.new i.values i.is i.agree);
      })
      (λ n1 g.
      record {
        value = SubOf.other q;
        derives = AnySub.others (above id n0 n1);
        adds = subst (λ (x : Names). Adds b t x [] (λ c. c)) (same-got g).0 (adds-nothing b t);
      }))
    where
      above : (i : ℕ) → (i ≡ 0 → ⊥) → (i ≡ 1 → ⊥) → 2 ≤ i
      above i p r = omega (arith, p, r)

      label : (t : Names) (p : Part) → p.from + p.len ≤ length q
          → Adds b t (record { label = Some (moved a p); symbols = t.symbols }) []
          (λ c. name_or c (module_name (part_bytes q p)))
      label t p h =
          record {
            grows = omega arith;
            functions-are = (adds-nothing b t).functions-are;
            name-is = λ c k. (moved a p, refl, same-part in_b p h);
          }

      rows : (t : Names) (all new : List Symbol) (vs : List FunctionOf) → all ≡ t.symbols ++ new → Pairwise (FunctionRow q size a) new vs
          → Adds b t (record { label = t.label; symbols = all }) vs (λ c. c)
      rows t all new vs e h =
          let here = all_map (function-here b q a in_b size) new vs h in
          record {
            grows = ap length e ∙ length-append t.symbols new ∙ ap (λ (k : ℕ). length t.symbols + k) (all-length new vs h);
            functions-are = λ gs k. rw e (all_append t.symbols new gs vs k here);
            name-is = λ c k. k;
          }

-- ---- subsections to the end of s
module _ (b s : List ℕ) (base : ℕ) (in_b : In b base s) (size : length s < 18446744073709551616) (cells : ℕ) where
  record HeardAll (at : ℕ) (t u : Names) : Type 0 where
    values : List SubOf
    derives : InARow (Framed AnySub) (drop at s) values []
    adds : Adds b t u (functions_in values) (λ c. name_in c values)

  heard-end : (at : ℕ) (t : Names) → length s ≤ at → HeardAll at t t
  unfolding functions_in name_in
  heard-end at t h =
      record { values = []; derives = rw (drop_all at s h) InARow.done; adds = adds-nothing b t }

  heard-on : (at : ℕ) (t v u : Names) (d e : ℕ) → subsection_at s base cells at t ≡ accepted (got v d) → HeardAll d v u → HeardAll at t u
  unfolding functions_in name_in
  heard-on at t v u d e q more =
      let k = took-sub s base cells at t v d q in
      let p = k.payload in
      let i = taken_in s p d k.ends k.in-s in
      let o =
      heard b (part_bytes s p) (base + p.from) (in-part in_b p.from (part_bytes s p) i) (omega (arith, i.inside)) cells k.id t v
      k.end
      k.three in
      record {
        values = o.value ∷ more.values;
        derives = rw (only-byte s size at k.id k.a k.one)
            (InARow.then (framed (only-counted s size k.a p d k.two) o.derives) more.derives);
        adds = adds-more b t v u _ _ (λ c. name_or c o.value) (λ c. name_in c more.values) o.adds more.adds;
      }

  heard_all : (at : ℕ) (t u : Names) (e : ℕ) → walk_from (subsection_at s base cells) s at t ≡ accepted (got u e) → HeardAll at t u
  heard_all at t u e q =
      walk-out (subsection_at s base cells) s
      (λ i t u d f. let k = took-sub s base cells i t u d f in (omega (arith, k.past, k.ends), k.in-s))
      (λ i t e u. HeardAll i t u) heard-end heard-on at t u e q

-- ---- what a section's contents s come to
module _ (b s : List ℕ) (base : ℕ) (in_b : In b base s) (size : length s < 18446744073709551616) (z : Sizes) where
  record Contents (id : ℕ) (t : Tables) (u : Inner) : Type 0 where
    value : Held
    derives : AnyContent id s value
    leaves : Leaves b t u value
    fits : HeldFits z value

  -- a custom section, by whether it is named `name`
  module _ (n : ℕ) (t : Tables) (p : Part) (at : ℕ) (first : Named s (part_bytes s p) (drop at s))
      (whole : p.from + p.len ≤ length s) where
    titled : (v : Names) (c : ℕ) (x : Bool) → same name_bytes (part_bytes s p) ≡ x
        → pick x (walk_from (subsection_at s base n) s at t.names) (accepted (got t.names at)) ≡ accepted (got v c)
        → Contents 0 t (record { name = moved base p; tables = with_names t v })
    unfolding functions_in name_in
    titled v c true x e =
        let is = same-is name_bytes (part_bytes s p) x in
        let o = heard_all b s base in_b size n at t.names v c e in
        record {
          value = Held.names o.values;
          derives = AnyContent.names (subst (λ (k : List ℕ). Named s k (drop at s)) is first) o.derives;
          leaves = record {
            keeps = refl;
            title-is = same-part in_b p whole ∙ is;
            imports-are = λ xs h. h;
            exports-are = λ xs h. h;
            adds = o.adds;
          };
          fits = tt;
        }
    titled v c false x e =
        let q = same-got e in
        record {
          value = Held.custom (part_bytes s p);
          derives = AnyContent.custom first (λ is. differ is);
          leaves = record {
            keeps = refl;
            title-is = same-part in_b p whole;
            imports-are = λ xs h. h;
            exports-are = λ xs h. h;
            adds = subst (λ (k : Names). Adds b t.names k [] (λ d. d)) q.0 (adds-nothing b t.names);
          };
          fits = tt;
        }
      where
        differ : part_bytes s p ≡ name_bytes → ⊥
        differ is =
            let y : same name_bytes (part_bytes s p) ≡ true = rw is (same_self name_bytes) in
            let z : true ≡ false = sym y ∙ x in
            let n : ◌≡◌ {A = ℕ} 0 1 = cc in
            omega arith

  custom : (n : ℕ) (t : Tables) (u : CustomSaid) (d : ℕ) → custom_at s base n t.names ≡ accepted (got u d)
      → Contents 0 t (record { name = u.name; tables = with_names t u.inner })
  unfolding custom_at name_word
  custom n t u d e =
      let o = read-on (name_at s 0) _ e in
      let p = o.what in
      let w = only-name s size 0 p o.next o.first in
      let x = read-on _ _ o.then in
      let g = same-got x.then in
      subst (λ (k : CustomSaid). Contents 0 t (record { name = k.name; tables = with_names t k.inner })) g.0
      (titled n t p o.next w.0 w.1 x.what x.next (same name_bytes (part_bytes s p)) refl x.first)

  contents : (id : ℕ) (t : Tables) (u : Inner) (d : ℕ) → contents_at id s base z t ≡ accepted (got u d) → Contents id t u
  unfolding contents_at imports_of exports_of functions_in name_in Gives Of Few
  contents id t u d e =
      either id 0 _ _ (got u d) _ e
      (λ h f.
      let o = read-on _ _ f in
      is 0 h (same-got o.then).0 (custom z.names t o.what o.next o.first))
      (λ n0 f.
      either id 2 _ _ (got u d) _ f
      (λ h g.
      let o = read-on _ _ g in
      let i =
      only-run s size AnyImport (ImportRow s size base) (import_at s base) (only-import s size base) 2 _ [] o.what o.next
      o.first in
      is 2 h (same-got o.then).0 (record {
        value = Held.imports i.values;
        derives = AnyContent.imports i.derives;
        leaves = record {
          keeps = refl;
          title-is = refl;
          imports-are = λ xs k.
              subst (λ (es : List Import). Pairwise (ImportHere b) es i.values) (sym i.is)
              (all_map (import-here b s base in_b size) i.new i.values i.agree);
          exports-are = λ xs k. k;
          adds = adds-nothing b t.names;
        };
        fits = omega (
          arith,
          few-run (import_at s base) 2 (capacity_in 2 z.imports) s [] (omega arith) (got o.what o.next) o.first,
          ap length i.is,
          all-length i.new i.values i.agree,
        );
      }))
      (λ n2 g.
      either id 7 _ _ (got u d) _ g
      (λ h k.
      let o = read-on _ _ k in
      let i =
      only-run s size AnyExport (ExportRow s size base) (export_at s base) (only-export s size base) 3 _ [] o.what o.next
      o.first in
      is 7 h (same-got o.then).0 (record {
        value = Held.exports i.values;
        derives = AnyContent.exports i.derives;
        leaves = record {
          keeps = refl;
          title-is = refl;
          imports-are = λ xs k. k;
          exports-are = λ xs k.
              subst (λ (es : List Export). Pairwise (ExportHere b) es i.values) (sym i.is)
              (all_map (export-here b s base in_b size) i.new i.values i.agree);
          adds = adds-nothing b t.names;
        };
        fits = omega (
          arith,
          few-run (export_at s base) 3 (capacity_in 3 z.exports) s [] (omega arith) (got o.what o.next) o.first,
          ap length i.is,
          all-length i.new i.values i.agree,
        );
      }))
      (λ n7 k.
      is id refl (same-got k).0 (record {
        value = Held.unread;
        derives = AnyContent.unread n0 n2 n7;
        leaves = record {
          keeps = refl;
          title-is = refl;
          imports-are = λ xs k. k;
          exports-are = λ xs k. k;
          adds = adds-nothing b t.names;
        };
        fits = tt;
      }))))
    where
      is : (n : ℕ) {v : Inner} → id ≡ n → v ≡ u → Contents n t v → Contents id t u
      is n h q o = subst (λ (k : ℕ). Contents k t u) (sym h) (subst (Contents n t) q o)

-- ---- sections to the end of the file
module _ (b : List ℕ) (size : length b < 18446744073709551616) (z : Sizes) where
  record Told (at : ℕ) (t u : Tables) : Type 0 where
    values : List SectionSaid
    derives : InARow (Framed AnySection) (drop at b) values []
    tells : Tells b t u values
    fits : Each (FitsIn z) values

  told-on : (at : ℕ) (t v u : Tables) (d e : ℕ) → section_at b z at t ≡ accepted (got v d) → Told d v u → Told at t u
  unfolding FitsIn
  told-on at t v u d e q more =
      let k = took b z at t v d q in
      let p = k.payload in
      let i = taken_in b p d k.ends k.in_b in
      let o = contents b (part_bytes b p) p.from i (omega (arith, i.inside)) z k.id t k.inner k.end k.three in
      let said : SectionSaid = record { id = k.id; payload = part_bytes b p; holds = o.value } in
      let w : Says b t v said =
      subst (λ (x : Tables). Says b t x said) (sym k.is) (says_of b (part_bytes b p) k.id p t k.inner o.value refl
      o.leaves) in
      record {
        values = said ∷ more.values;
        derives = rw (only-byte b size at k.id k.a k.one)
            (InARow.then (framed (only-counted b size k.a p d k.two) (AnySection.section o.derives)) more.derives);
        tells = tells_more b t v u said more.values w more.tells;
        fits = each-cons o.fits more.fits;
      }

  told-all : (at : ℕ) (t u : Tables) (e : ℕ) → walk_from (section_at b z) b at t ≡ accepted (got u e) → Told at t u
  told-all at t u e q =
      walk-out (section_at b z) b (λ i t u d f. let k = took b z i t u d f in (omega (arith, k.past, k.ends), k.in_b))
      (λ i t e u. Told i t u)
      (λ i t h. record { values = []; derives = rw (drop_all i b h) InARow.done; tells = tells-nothing b t; fits = each_nil })
      told-on at t u e q

-- all that is accepted is derived, with those rows
pub only-these : OnlyThese
unfolding module_at
only-these b z m bytes e = by (ltb file_limit (length b)) refl e where
  same-said : {v w : Parsed} → accepted v ≡ accepted w → v ≡ w
  same-said e = cc

  by : (x : Bool) → ltb file_limit (length b) ≡ x
      → pick x (refused 14 (spot 0)) (onward (header_at b) (λ v c.
      onward (walk_from (section_at b z) b c no_tables) (λ t d. accepted (record { version = v; tables = t })))) ≡ accepted m
      → Derives b z m
  by true x f = absurd (never f)
  by false x f =
      let short = ltb-false file_limit (length b) x in
      let o = read-on (header_at b) _ f in
      let h = header-only b o.what o.next o.first in
      let y = read-on (walk_from (section_at b z) b o.next no_tables) _ o.then in
      let w = told-all b (omega arith) z o.next no_tables y.what y.next y.first in
      let is : ◌≡◌ {A = Parsed} (record { version = o.what; tables = y.what }) m = same-said y.then in
      let ok = (subst (ModuleOk b z) (sym is) (rows-sound b z m bytes e)).rows_ok in
      let t = rows_of b y.what w.values w.tells in
      subst (Derives b z) is (record {
        sections = w.values;
        derived = AnyModule.modul h.header
            (subst (λ (i : ℕ). InARow (Framed AnySection) (drop i b) w.values []) h.next-is w.derives);
        short = short;
        room = record {
          sections = omega (arith, ok.sections-few, all-length y.what.sections w.values t.sections-are);
          entries = w.fits;
          functions = omega
              (arith, ok.names-ok.symbols-few, all-length y.what.names.symbols (functions_all w.values) t.functions-are);
        };
        version-is = h.version-is;
        rows = t;
      })
