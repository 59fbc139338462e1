-- What the specification's grammar derives the port's derives cleanly, with the same rows. Assumes nothing.
use Prim.Native.Nat.{ℕ, zero, suc, ◌+◌, ◌≤◌}
use native.Mathlib.Omega.{arith}
use mathlib.Core.Path.{◌≡◌, refl, sym, ◌∙◌, ap, subst}
use mathlib.Core.List.{List, [], ◌∷◌, ◌++◌, map, map-id}
use lib.ListN.{length, drop, take-append-drop}
use lib.Seq.{drop-drop, get_or-drop}
use Rattle.refusal.specs.Each.{Each, each_nil, each-cons}
use Rattle.leb.proofs.Conform.{wider, below}
use Rattle.conform.specs.Grammar.{U32, u32, NameG, name, Many, none, more, Vec, vec, Lim, least, between, LimitsG, from, from_to, memtype}
use Rattle.conform.specs.Grammar.{Mut, mut_byte, Kind, spec_kind, tabletype, globaltype, DescOf, DescG, ImportOf, ImportG, import, ExportOf}
use Rattle.conform.specs.Grammar.{ExportG, export, FunctionOf, AssocG, nameassoc, SubOf, SubG, SubsG, Content, ContentG, SectionOf}
use Rattle.conform.specs.Grammar.{SectionG, SectionPlace, SectionsG, ModuleG}
use Rattle.conform.specs.Port.{Number, number, Named, named, Counted, counted, AnyLimits, even, odd, AnyDesc, ImportSaid, AnyImport}
use Rattle.conform.specs.Port.{imported, AnyExport, exported, AnyAssoc, assoc, AnySub, Framed, framed, SectionSaid, InARow, AnyContent}
use Rattle.conform.specs.Port.{AnySection, AnyHeader, AnyModule}
use Rattle.conform.specs.Claims.{Bytes, limits_of, desc_kind, desc_of, import_said, export_said, content_held, section_said}
use Rattle.clean.specs.Rules.{EveryMany, EveryRow, ShortNumber, ShortName, ShortLimits, ShortDesc, ShortImport, ShortExport}
use Rattle.clean.specs.Rules.{ShortImports, ShortExports, ShortAssocs, ShortAssoc, ShortSub, ShortSubsection, ShortContent}
use Rattle.clean.specs.Rules.{ShortSection, ShortModule, UsedContent, UsedSection, UsedModule, KnownId, InOrder, KnownKind}
use Rattle.clean.specs.Rules.{PlainDesc, PlainImport, OfExports, OfImports, KnownKinds, PlainImports, refbyte, valbyte, TypedDesc}
use Rattle.clean.specs.Rules.{TypedImport, TypedImports, TidySub, TidySubs, TidyContent, TidySection, TidyNames}
use Rattle.clean.specs.Claims.{CleanModule, SpecifiedClean}
use Rattle.clean.proofs.Five.{u32-is-five}

-- ---- bytes
past : (k : ℕ) (l : List ℕ) → Bytes l → Bytes (drop k l)
past k l h i = rw (get_or-drop k l i 0) (h (k + i))

front : (p r : List ℕ) → Bytes (p ++ r) → Bytes p
front [] r h i = omega arith
front (x ∷ p) r h zero = h 0
front (x ∷ p) r h (suc i) = front p r (λ j. h (suc j)) i

back : (p r : List ℕ) → Bytes (p ++ r) → Bytes r
back [] r h = h
back (x ∷ p) r h = back p r (λ j. h (suc j))

-- ---- a derivation by the port's grammar of which Q holds; and what is left is of bytes
record Given (A : Type 0) (Q : A → Type 0) (r : List ℕ) : Type 0 where
  derives : A
  good : Q derives
  bytes : Bytes r

of-u32 : {l r : List ℕ} {v : ℕ} → Bytes l → U32 l v r → Given (Number l v r) (λ n. ShortNumber n) r
of-u32 {l} h (u32 {k = k} u) =
    record { derives = number (wider {M = 64} (omega arith) u) (below h u); good = u32-is-five u; bytes = past k l h }

of-name : {l b r : List ℕ} → Bytes l → NameG l b r → Given (Named l b r) (λ n. ShortName n) r
of-name {l} {b} h (name {k = k} n) =
    let c = n.count in
    let e : drop c l ≡ b ++ drop k l =
    sym (take-append-drop (length b) (drop c l))
    ∙ ap (λ (x : List ℕ). x ++ drop (length b) (drop c l)) n.bytes
    ∙ ap (λ (x : List ℕ). b ++ x) (drop-drop (length b) c l ∙ ap (λ (i : ℕ). drop i l) n.size) in
    let u : (u : Number l (length b) (b ++ drop k l)) × ShortNumber u =
    subst (λ (x : List ℕ). (u : Number l (length b) x) × ShortNumber u) e
    (number (wider {M = 64} (omega arith) n.counted) (below h n.counted), u32-is-five n.counted) in
    record { derives = named u.0 n.utf8; good = u.1; bytes = past k l h }

-- ---- entries
of-limits : {l r : List ℕ} {m : Lim} → Bytes l → LimitsG l m r → Given (AnyLimits l (limits_of m) r) (λ x. ShortLimits x) r
of-limits h (from u) = let a = of-u32 (λ q. h (suc q)) u in record { derives = even refl a.derives; good = a.good; bytes = a.bytes }
of-limits h (from_to u w) =
    let a = of-u32 (λ q. h (suc q)) u in
    let b = of-u32 a.bytes w in
    record { derives = odd refl a.derives b.derives; good = (a.good, b.good); bytes = b.bytes }

-- a descriptor: its kind byte, and what follows that
record Described (k : List ℕ) (d : DescOf) (r : List ℕ) : Type 0 where
  rest : List ℕ
  is : k ≡ desc_kind d ∷ rest
  desc : Given (AnyDesc (desc_kind d) rest (desc_of d) r) (λ x. ShortDesc x) r

of-desc : {k r : List ℕ} {d : DescOf} → Bytes k → DescG k d r → Described k d r
of-desc h (DescG.func {l = l} u) =
    let a = of-u32 (λ q. h (suc q)) u in
    record { rest = l; is = refl; desc = record { derives = AnyDesc.function a.derives; good = a.good; bytes = a.bytes } }
of-desc h (DescG.table {l = i} (tabletype t u)) =
    let a = of-limits (λ q. h (suc (suc q))) u in
    record { rest = i; is = refl; desc = record { derives = AnyDesc.tables a.derives; good = a.good; bytes = a.bytes } }
of-desc h (DescG.mem {l = l} (memtype u)) =
    let a = of-limits (λ q. h (suc q)) u in
    record { rest = l; is = refl; desc = record { derives = AnyDesc.memories a.derives; good = a.good; bytes = a.bytes } }
of-desc h (DescG.global {l = l} (globaltype t m)) =
    record { rest = l; is = refl; desc = record { derives = AnyDesc.globals; good = tt; bytes = λ q. h (suc (suc (suc q))) } }

of-import : {l r : List ℕ} {v : ImportOf} → Bytes l → ImportG l v r → Given (AnyImport l (import_said v) r) (λ x. ShortImport x) r
of-import h (import {m = m} {b = b} x y z) =
    let p = of-name h x in
    let q = of-name p.bytes y in
    let o = of-desc q.bytes z in
    let w : (n : Named m b _) × ShortName n =
    subst (λ (k : List ℕ). (n : Named m b k) × ShortName n) o.is (q.derives, q.good) in
    record {
      derives = imported p.derives w.0 o.desc.derives;
      good = (p.good, w.1, o.desc.good);
      bytes = o.desc.bytes;
    }

of-export : {l r : List ℕ} {v : ExportOf} → Bytes l → ExportG l v r → Given (AnyExport l (export_said v) r) (λ x. ShortExport x) r
of-export h (export k y z) =
    let p = of-name h y in
    let g = of-u32 (λ q. p.bytes (suc q)) z in
    record { derives = exported p.derives g.derives; good = (p.good, g.good); bytes = g.bytes }

of-assoc : {l r : List ℕ} {v : FunctionOf} → Bytes l → AssocG l v r → Given (AnyAssoc l v r) (λ x. ShortAssoc x) r
of-assoc h (nameassoc u y) =
    let g = of-u32 h u in
    let p = of-name g.bytes y in
    record { derives = assoc g.derives p.derives; good = (g.good, p.good); bytes = p.bytes }

-- vectors
module _ {X Y : Type 0} (B : List ℕ → X → List ℕ → Type 0) (P : List ℕ → Y → List ℕ → Type 0) (f : X → Y)
    (Q : (l r : List ℕ) (y : Y) → P l y r → Type 0)
    (one : (l r : List ℕ) (v : X) → Bytes l → B l v r → Given (P l (f v) r) (Q l r (f v)) r) where
  of-many : {n : ℕ} {l r : List ℕ} {vs : List X} → Bytes l → Many B n l vs r → (w : Many P n l (map f vs) r) × EveryMany Q w
  unfolding EveryMany
  of-many h none = (none, tt)
  of-many h (more {l = l} {m = m} {v = v} x y) =
      let o = one l m v h x in
      let i = of-many o.bytes y in
      (more o.derives i.0, (o.good, i.1))

of-imports : {l r : List ℕ} {vs : List ImportOf} → Bytes l → Vec ImportG l vs r
    → (w : Counted AnyImport l (map import_said vs) r) × ShortImports w
of-imports h (vec u w) =
    let o = of-u32 h u in
    let i = of-many ImportG AnyImport import_said (λ l r v x. ShortImport x) (λ l r v h x. of-import h x) o.bytes w in
    (counted o.derives i.0, (o.good, i.1))

of-exports : {l r : List ℕ} {vs : List ExportOf} → Bytes l → Vec ExportG l vs r
    → (w : Counted AnyExport l (map export_said vs) r) × ShortExports w
of-exports h (vec u w) =
    let o = of-u32 h u in
    let i = of-many ExportG AnyExport export_said (λ l r v x. ShortExport x) (λ l r v h x. of-export h x) o.bytes w in
    (counted o.derives i.0, (o.good, i.1))

of-assocs : {l r : List ℕ} {vs : List FunctionOf} → Bytes l → Vec AssocG l vs r → (w : Counted AnyAssoc l vs r) × ShortAssocs w
of-assocs {l} {r} {vs} h (vec u w) =
    let o = of-u32 h u in
    let i = of-many AssocG AnyAssoc (λ (x : FunctionOf). x) (λ l r v x. ShortAssoc x) (λ l r v h x. of-assoc h x) o.bytes w in
    subst (λ (fs : List FunctionOf). (w : Counted AnyAssoc l fs r) × ShortAssocs w) (map-id vs)
    (counted o.derives i.0, (o.good, i.1))

-- ---- name sections
of-sub : {id : ℕ} {p : List ℕ} {v : SubOf} → Bytes p → SubG id p v → (x : AnySub id p v) × ShortSub x × TidySub x
of-sub h (SubG.modulenamesubsec w) = let o = of-name h w in (AnySub.modulename o.derives, o.good, refl)
of-sub h (SubG.funcnamesubsec w k) = let o = of-assocs h w in (AnySub.funcnames o.0, o.1, (refl, k))
of-sub h (SubG.othersubsec k) = (AnySub.others k, tt, tt)

of-subs : {low : ℕ} {l : List ℕ} {vs : List SubOf} → Bytes l → SubsG low l vs
    → (w : InARow (Framed AnySub) l vs []) × EveryRow (λ l r v x. ShortSubsection x) w × TidySubs low w
unfolding EveryRow TidySubs
of-subs h SubsG.end = (InARow.done, tt, tt)
of-subs h (SubsG.then {p = p} {r = r} k u x rest) =
    let o = of-u32 (λ q. h (suc q)) u in
    let i = of-sub (front p r o.bytes) x in
    let j = of-subs (back p r o.bytes) rest in
    (InARow.then (framed o.derives i.0) j.0, ((o.good, i.1), j.1), (k, i.2, j.2))

-- ---- what holds of the values, however derived
plain-limits : (m : Lim) → (limits_of m).flag ≤ 1
plain-limits (least n) = omega arith
plain-limits (between n k) = omega arith

plain-mut : (m : Mut) → mut_byte m ≤ 1
plain-mut Mut.const = omega arith
plain-mut Mut.var = omega arith

known-kind : (k : Kind) → spec_kind k ≤ 3
known-kind Kind.func = omega arith
known-kind Kind.table = omega arith
known-kind Kind.mem = omega arith
known-kind Kind.global = omega arith

plain-desc : (d : DescOf) → PlainDesc (desc_of d)
plain-desc (DescOf.func x) = PlainDesc.function
plain-desc (DescOf.table t) = PlainDesc.tables (plain-limits t.limits)
plain-desc (DescOf.mem m) = PlainDesc.memories (plain-limits m)
plain-desc (DescOf.global g) = PlainDesc.globals (plain-mut g.mut)

typed-desc : (d : DescOf) → TypedDesc (desc_of d)
typed-desc (DescOf.func x) = TypedDesc.function
typed-desc (DescOf.table t) = TypedDesc.tables (refbyte t.element)
typed-desc (DescOf.mem m) = TypedDesc.memories
typed-desc (DescOf.global g) = TypedDesc.globals (valbyte g.value)

each_map : {X Y : Type 0} (P : Y → Type 0) (f : X → Y) → ((x : X) → P (f x)) → (xs : List X) → Each P (map f xs)
each_map P f h [] = each_nil
each_map P f h (x ∷ xs) = each-cons (h x) (each_map P f h xs)

known-kinds : (v : SectionOf) → KnownKinds (section_said v)
unfolding KnownKinds KnownKind
known-kinds v = by v.holds where
  by : (c : Content) → OfExports (Each KnownKind) (content_held c)
  by (Content.custom n) = tt
  by (Content.names vs) = tt
  by (Content.imports vs) = tt
  by (Content.exports vs) = each_map KnownKind export_said (λ e. known-kind e.kind) vs
  by Content.unread = tt

of-imports-said : (P : ImportSaid → Type 0) → ((v : ImportOf) → P (import_said v)) → (c : Content) → OfImports (Each P) (content_held c)
of-imports-said P h (Content.custom n) = tt
of-imports-said P h (Content.names vs) = tt
of-imports-said P h (Content.imports vs) = each_map P import_said h vs
of-imports-said P h (Content.exports vs) = tt
of-imports-said P h Content.unread = tt

plain-imports : (v : SectionOf) → PlainImports (section_said v)
unfolding PlainImports PlainImport
plain-imports v = of-imports-said PlainImport (λ i. plain-desc i.desc) v.holds

typed-imports : (v : SectionOf) → TypedImports (section_said v)
unfolding TypedImports TypedImport
typed-imports v = of-imports-said TypedImport (λ i. typed-desc i.desc) v.holds

known-place : {id place : ℕ} → SectionPlace id place → id ≤ 12
known-place (SectionPlace.up_to9 a b) = omega arith
known-place SectionPlace.datacountsec = omega arith
known-place SectionPlace.codesec = omega arith
known-place SectionPlace.datasec = omega arith

known-ids : {last : ℕ} {l : List ℕ} {vs : List SectionOf} → SectionsG last l vs → Each KnownId (map section_said vs)
unfolding KnownId
known-ids SectionsG.end = each_nil
known-ids (SectionsG.custom {v = v} k x rest) = let h : v.id ≤ 12 = omega arith in each-cons h (known-ids rest)
known-ids (SectionsG.then p k x rest) = each-cons (known-place p) (known-ids rest)

in_order : {last : ℕ} {l : List ℕ} {vs : List SectionOf} → SectionsG last l vs → InOrder last (map section_said vs)
in_order SectionsG.end = InOrder.end
in_order (SectionsG.custom k x rest) = InOrder.custom k (in_order rest)
in_order (SectionsG.then p k x rest) = InOrder.then p k (in_order rest)

-- ---- sections
of-content : {id : ℕ} {p : List ℕ} {c : Content} → Bytes p → ContentG id p c
    → (x : AnyContent id p (content_held c)) × ShortContent x × UsedContent x × TidyContent x
of-content h (ContentG.customsec w k) = let o = of-name h w in (AnyContent.custom o.derives k, o.good, tt, tt)
of-content h (ContentG.namesec w x) =
    let o = of-name h w in
    let i = of-subs o.bytes x in
    (AnyContent.names o.derives i.0, (o.good, i.1), tt, i.2)
of-content h (ContentG.importsec w) = let o = of-imports h w in (AnyContent.imports o.0, o.1, refl, tt)
of-content h (ContentG.exportsec w) = let o = of-exports h w in (AnyContent.exports o.0, o.1, refl, tt)
of-content h (ContentG.othersec n0 n2 n7) = (AnyContent.unread n0 n2 n7, tt, tt, tt)

abbrev GoodSection : {l r : List ℕ} {v : SectionSaid} → Framed AnySection l v r → Type 0
GoodSection x = ShortSection x × UsedSection x × TidySection x

of-section : {l r : List ℕ} {v : SectionOf} → Bytes l → SectionG l v r
    → Given (Framed AnySection l (section_said v) r) (λ x. GoodSection x) r
of-section h (SectionG.section {p = p} {r = r} u x) =
    let o = of-u32 (λ q. h (suc q)) u in
    let i = of-content (front p r o.bytes) x in
    record {
      derives = framed o.derives (AnySection.section i.0);
      good = ((o.good, i.1), i.2, i.3);
      bytes = back p r o.bytes;
    }

record Sections (l : List ℕ) (vs : List SectionSaid) : Type 0 where
  derives : InARow (Framed AnySection) l vs []
  short : EveryRow (λ l r v x. ShortSection x) derives
  used : EveryRow (λ l r v x. UsedSection x) derives
  tidy : EveryRow (λ l r v x. TidySection x) derives

more-sections : {l m : List ℕ} {v : SectionSaid} {vs : List SectionSaid} → Given (Framed AnySection l v m) (λ x. GoodSection x) m
    → Sections m vs → Sections l (v ∷ vs)
unfolding EveryRow
more-sections o i =
    record {
      derives = InARow.then o.derives i.derives;
      short = (o.good.0, i.short);
      used = (o.good.1, i.used);
      tidy = (o.good.2, i.tidy);
    }

of-sections : {last : ℕ} {l : List ℕ} {vs : List SectionOf} → Bytes l → SectionsG last l vs → Sections l (map section_said vs)
unfolding EveryRow
of-sections h SectionsG.end = record { derives = InARow.done; short = tt; used = tt; tidy = tt }
of-sections h (SectionsG.custom k x rest) = let o = of-section h x in more-sections o (of-sections o.bytes rest)
of-sections h (SectionsG.then p k x rest) = let o = of-section h x in more-sections o (of-sections o.bytes rest)

-- ---- modules
clean_of : (b : List ℕ) (us : List SectionOf) → Bytes b → ModuleG b us → (d : AnyModule b (map section_said us)) × CleanModule d
unfolding ShortModule UsedModule TidyNames
clean_of b us h (ModuleG.modul s) =
    let o = of-sections (past 8 b h) s in
    let k : AnyHeader b = record { long = omega arith; starts = refl; some = omega arith } in (
      AnyModule.modul k o.derives,
      record {
        version = refl;
        short = o.short;
        ids = known-ids s;
        order = in_order s;
        used = o.used;
        kinds = each_map KnownKinds section_said known-kinds us;
        plain = each_map PlainImports section_said plain-imports us;
        types = each_map TypedImports section_said typed-imports us;
        names = o.tidy;
      },
    )

-- whatever the specification's grammar derives, the port's derives cleanly, with the same rows
pub specified-clean : SpecifiedClean
specified-clean b vs h s =
    subst (λ (xs : List SectionSaid). (d : AnyModule b xs) × CleanModule d) s.says (clean_of b s.sections h s.derived)
