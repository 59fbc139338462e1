-- What the port's grammar derives cleanly the specification's derives, with the same rows. Assumes nothing.
use Rattle.std.specs.Prelude.{Some, None}
use Prim.Native.Nat.{ℕ, zero, suc, ◌+◌, ◌^◌, ◌≤◌, ◌<◌}
use native.Mathlib.Omega.{arith}
use mathlib.Core.Path.{◌≡◌, refl, sym, ◌∙◌, ap, subst}
use mathlib.Core.List.{List, [], ◌∷◌, map, map-id}
use lib.ListN.{length, take, drop, length-drop, length-append}
use lib.Seq.{drop-drop, take_at, drop_at}
use Rattle.refusal.specs.Each.{Each, each_nil, each-cons}
use Rattle.wasm.specs.Shapes.{Limits, Desc, table_desc, memory, global}
use Rattle.leb.specs.Grammar.{U}
use Rattle.leb.proofs.Bounds.{u-takes}
use Rattle.conform.specs.Grammar.{U32, u32, NameG, name, Many, none, more, Vec, vec, least, between, LimitsG, from, from_to, memtype}
use Rattle.conform.specs.Grammar.{ref_byte, val_byte, Mut, mut_byte, Kind, spec_kind, tabletype, globaltype, DescOf, DescG, ImportG, import}
use Rattle.conform.specs.Grammar.{ExportG, export, FunctionOf, AssocG, nameassoc, SubOf, SubG, SubsG, Content, ContentG, SectionOf}
use Rattle.conform.specs.Grammar.{SectionG, SectionPlace, SectionsG, ModuleG}
use Rattle.conform.specs.Port.{Number, number, Named, named, Counted, counted, AnyLimits, even, odd, AnyDesc, ImportSaid, AnyImport}
use Rattle.conform.specs.Port.{imported, ExportSaid, AnyExport, exported, AnyAssoc, assoc, AnySub, Framed, framed, Held, SectionSaid}
use Rattle.conform.specs.Port.{InARow, AnyContent, AnySection, version_of, AnyHeader, AnyModule}
use Rattle.conform.specs.Claims.{limits_of, desc_kind, desc_of, import_said, export_said, content_held, section_said}
use Rattle.clean.specs.Rules.{EveryMany, EveryRow, taken, ShortNumber, ShortName, ShortLimits, ShortDesc, ShortImport, ShortExport}
use Rattle.clean.specs.Rules.{ShortImports, ShortExports, ShortAssocs, ShortAssoc, ShortSub, ShortSubsection, ShortContent}
use Rattle.clean.specs.Rules.{ShortSection, ShortModule, UsedContent, UsedSection, UsedModule, KnownId, InOrder, KnownKind}
use Rattle.clean.specs.Rules.{PlainDesc, PlainImport, OfExports, OfImports, KnownKinds, PlainImports, refbyte, valbyte, TypedDesc}
use Rattle.clean.specs.Rules.{TypedImport, TypedImports, TidySub, TidySubs, TidyContent, TidySection, TidyNames}
use Rattle.clean.specs.Claims.{StrictOnly}
use Rattle.clean.proofs.Five.{five-is-u32}

-- ---- numbers and names
opened : {l r : List ℕ} {v : ℕ} (n : Number l v r) → U 64 l v (taken n) × (v < 2 ^ 32) × (drop (taken n) l ≡ r)
opened (number u h) = (u, h, refl)

to-u32 : {l r : List ℕ} {v : ℕ} (n : Number l v r) → ShortNumber n → U32 l v r
to-u32 (number u h) k = u32 (five-is-u32 u h k)

to-name : {l b r : List ℕ} (n : Named l b r) → ShortName n → NameG l b r
to-name {l} {b} {r} (named n u) k =
    let o = opened n in
    let c = taken n in
    let e = o.2 in
    let w = (u-takes o.0).1 in
    let long : length (drop c l) ≡ length b + length r = ap length e ∙ length-append b r in
    let rest : drop (c + length b) l ≡ r =
    sym (drop-drop (length b) c l) ∙ ap (λ (x : List ℕ). drop (length b) x) e ∙ drop_at b r (length b) refl in
    subst (NameG l b) rest (name (record {
      count = c;
      counted = five-is-u32 o.0 o.1 k;
      whole = omega (arith, length-drop c l);
      bytes = ap (λ (x : List ℕ). take (length b) x) e ∙ take_at b r (length b) refl;
      utf8 = u;
      size = refl;
    }))

-- ---- a value of the specification's that says this, and its derivation
record Meant {X Y : Type 0} (B : List ℕ → X → List ℕ → Type 0) (f : X → Y) (l : List ℕ) (y : Y) (r : List ℕ) : Type 0 where
  value : X
  derives : B l value r
  says : f value ≡ y

-- limits
to-limits : {l r : List ℕ} {m : Limits} (x : AnyLimits l m r) → ShortLimits x → m.flag ≤ 1 → Meant LimitsG limits_of l m r
to-limits {r = r} (even {l = l} {f = f} {n = n} p u) k h =
    let e : 0 ≡ f = omega arith in
    subst (λ (g : ℕ). Meant LimitsG limits_of (g ∷ l) (record { flag = g; least = n; most = None }) r) e
    (record { value = least n; derives = from (to-u32 u k); says = refl })
to-limits {r = r} (odd {l = l} {f = f} {n = n} {k = i} p u w) k h =
    let e : 1 ≡ f = omega arith in
    subst (λ (g : ℕ). Meant LimitsG limits_of (g ∷ l) (record { flag = g; least = n; most = Some i }) r) e
    (record { value = between n i; derives = from_to (to-u32 u k.0) (to-u32 w k.1); says = refl })

-- bytes that stand for a case
to-mut : (m : ℕ) → m ≤ 1 → (x : Mut) × (mut_byte x ≡ m)
to-mut zero h = (Mut.const, refl)
to-mut (suc zero) h = (Mut.var, refl)
to-mut (suc (suc m)) h = absurd (omega arith)

to-kind : (n : ℕ) → n ≤ 3 → (k : Kind) × (spec_kind k ≡ n)
to-kind zero h = (Kind.func, refl)
to-kind (suc zero) h = (Kind.table, refl)
to-kind (suc (suc zero)) h = (Kind.mem, refl)
to-kind (suc (suc (suc zero))) h = (Kind.global, refl)
to-kind (suc (suc (suc (suc n)))) h = absurd (omega arith)

-- a descriptor, with its kind byte
record Described (kind : ℕ) (l : List ℕ) (d : Desc) (r : List ℕ) : Type 0 where
  value : DescOf
  derives : DescG (kind ∷ l) value r
  kind-is : desc_kind value ≡ kind
  says : desc_of value ≡ d

to-desc : {kind : ℕ} {l r : List ℕ} {d : Desc} (x : AnyDesc kind l d r) → ShortDesc x → PlainDesc d → TypedDesc d → Described kind l d r
to-desc (AnyDesc.function {x = x} n) k PlainDesc.function TypedDesc.function =
    record { value = DescOf.func x; derives = DescG.func (to-u32 n k); kind-is = refl; says = refl }
to-desc (AnyDesc.tables w) k (PlainDesc.tables h) (TypedDesc.tables (refbyte t)) =
    let o = to-limits w k h in
    record {
      value = DescOf.table (record { element = t; limits = o.value });
      derives = DescG.table (tabletype t o.derives);
      kind-is = refl;
      says = ap (table_desc (ref_byte t)) o.says;
    }
to-desc (AnyDesc.memories w) k (PlainDesc.memories h) TypedDesc.memories =
    let o = to-limits w k h in
    record { value = DescOf.mem o.value; derives = DescG.mem (memtype o.derives); kind-is = refl; says = ap memory o.says }
to-desc (AnyDesc.globals {r = r} {m = m}) k (PlainDesc.globals h) (TypedDesc.globals (valbyte t)) =
    let o = to-mut m h in
    subst (λ (n : ℕ). Described 3 (val_byte t ∷ n ∷ r) (global (val_byte t) n) r) o.1 (record {
      value = DescOf.global (record { value = t; mut = o.0 });
      derives = DescG.global (globaltype t o.0);
      kind-is = refl;
      says = refl;
    })

-- ---- entries
to-import : {l r : List ℕ} {v : ImportSaid} (x : AnyImport l v r) → ShortImport x → PlainImport v → TypedImport v
    → Meant ImportG import_said l v r
unfolding PlainImport TypedImport
to-import (imported {a = a} {b = b} {kind = kind} {d = d} x y z) k p t =
    let o = to-desc z k.2 p t in
    record {
      value = record { from = a; name = b; desc = o.value };
      derives = import (to-name x k.0) (to-name y k.1) o.derives;
      says = ap (λ (i : ℕ). record { from = a; name = b; kind = i; desc = desc_of o.value }) o.kind-is
          ∙ ap (λ (i : Desc). record { from = a; name = b; kind = kind; desc = i }) o.says;
    }

to-export : {l r : List ℕ} {v : ExportSaid} (x : AnyExport l v r) → ShortExport x → KnownKind v → Meant ExportG export_said l v r
unfolding KnownKind
to-export {l} {r} (exported {m = m} {a = a} {kind = kind} {x = x} n u) k h =
    let o = to-kind kind h in
    record {
      value = record { name = a; kind = o.0; index = x };
      derives = export o.0 (subst (λ (i : ℕ). NameG l a (i ∷ m)) (sym o.1) (to-name n k.0)) (to-u32 u k.1);
      says = ap (λ (i : ℕ). record { name = a; kind = i; index = x }) o.1;
    }

to-assoc : {l r : List ℕ} {v : FunctionOf} (x : AnyAssoc l v r) → ShortAssoc x → AssocG l v r
to-assoc (assoc n a) k = nameassoc (to-u32 n k.0) (to-name a k.1)

-- vectors
module _ {X Y : Type 0} (B : List ℕ → X → List ℕ → Type 0) (P : List ℕ → Y → List ℕ → Type 0) (f : X → Y)
    (Q : (l r : List ℕ) (y : Y) → P l y r → Type 0) (R : Y → Type 0)
    (one : (l r : List ℕ) (y : Y) (x : P l y r) → Q l r y x → R y → Meant B f l y r) where
  to-many : {n : ℕ} {l r : List ℕ} {ys : List Y} (w : Many P n l ys r) → EveryMany Q w → Each R ys → Meant (Many B n) (map f) l ys r
  unfolding EveryMany
  to-many none k each_nil = record { value = []; derives = none; says = refl }
  to-many (more {l = l} {m = m} {v = y} {vs = ys} x w) k (each-cons h hs) =
      let o = one l m y x k.0 h in
      let i = to-many w k.1 hs in
      record {
        value = o.value ∷ i.value;
        derives = more o.derives i.derives;
        says = ap (λ (z : Y). z ∷ map f i.value) o.says ∙ ap (λ (zs : List Y). y ∷ zs) i.says;
      }

  to_vec : {l m r : List ℕ} {n : ℕ} {ys : List Y} (u : Number l n m) (w : Many P n m ys r) → ShortNumber u → EveryMany Q w → Each R ys
      → Meant (Vec B) (map f) l ys r
  to_vec u w s k h =
      let o = to-many w k h in
      record { value = o.value; derives = vec (to-u32 u s) o.derives; says = o.says }

both : {E : Type 0} {P Q : E → Type 0} {es : List E} → Each P es → Each Q es → Each (λ e. P e × Q e) es
both each_nil each_nil = each_nil
both (each-cons p ps) (each-cons q qs) = each-cons (p, q) (both ps qs)

always : {E : Type 0} (es : List E) → Each (λ (e : E). Unit {0}) es
always [] = each_nil
always (e ∷ es) = each-cons tt (always es)

to-imports : {p : List ℕ} {r : List ℕ} {vs : List ImportSaid} (w : Counted AnyImport p vs r) → ShortImports w → Each PlainImport vs
    → Each TypedImport vs → Meant (Vec ImportG) (map import_said) p vs r
to-imports (counted n w) k h t =
    to_vec ImportG AnyImport import_said (λ l r v x. ShortImport x) (λ v. PlainImport v × TypedImport v)
    (λ l r v x q h. to-import x q h.0 h.1) n w k.0 k.1 (both h t)

to-exports : {p : List ℕ} {r : List ℕ} {vs : List ExportSaid} (w : Counted AnyExport p vs r) → ShortExports w → Each KnownKind vs
    → Meant (Vec ExportG) (map export_said) p vs r
to-exports (counted n w) k h =
    to_vec ExportG AnyExport export_said (λ l r v x. ShortExport x) KnownKind (λ l r v x q h. to-export x q h) n w k.0 k.1 h

to-assocs : {p : List ℕ} {r : List ℕ} {vs : List FunctionOf} (w : Counted AnyAssoc p vs r) → ShortAssocs w → Vec AssocG p vs r
to-assocs {p} {r} {vs} (counted n w) k =
    let o =
    to_vec AssocG AnyAssoc (λ (x : FunctionOf). x) (λ l r v x. ShortAssoc x) (λ v. Unit {0})
    (λ l r v x q h. record { value = v; derives = to-assoc x q; says = refl }) n w k.0 k.1 (always vs) in
    subst (λ (fs : List FunctionOf). Vec AssocG p fs r) (sym (map-id o.value) ∙ o.says) o.derives

-- ---- name sections
to-sub : {id : ℕ} {p : List ℕ} {v : SubOf} (x : AnySub id p v) → ShortSub x → TidySub x → SubG id p v
to-sub {p = p} (AnySub.modulename {a = a} n) k t = SubG.modulenamesubsec (subst (NameG p a) t (to-name n k))
to-sub {p = p} (AnySub.funcnames {vs = vs} w) k t = SubG.funcnamesubsec (subst (Vec AssocG p vs) t.0 (to-assocs w k)) t.1
to-sub (AnySub.others h) k t = SubG.othersubsec h

to-subs : {l r : List ℕ} {vs : List SubOf} (low : ℕ) (w : InARow (Framed AnySub) l vs r) → r ≡ []
    → EveryRow (λ l r v x. ShortSubsection x) w
    → TidySubs low w → SubsG low l vs
unfolding EveryRow TidySubs
to-subs low InARow.done e k t = rw e SubsG.end
to-subs low (InARow.then (framed {id = id} n c) w) e k t =
    SubsG.then t.0 (to-u32 n k.0.0) (to-sub c k.0.1 t.1) (to-subs (suc id) w e k.1 t.2)

-- ---- sections
record Contained (id : ℕ) (p : List ℕ) (c : Held) : Type 0 where
  value : Content
  derives : ContentG id p value
  says : content_held value ≡ c

to-content : {id : ℕ} {p : List ℕ} {c : Held} (x : AnyContent id p c) → ShortContent x → UsedContent x → TidyContent x
    → OfExports (Each KnownKind) c → OfImports (Each PlainImport) c → OfImports (Each TypedImport) c → Contained id p c
to-content (AnyContent.custom {n = n} a h) s u t e i y =
    record { value = Content.custom n; derives = ContentG.customsec (to-name a s) h; says = refl }
to-content (AnyContent.names {vs = vs} a w) s u t e i y =
    record { value = Content.names vs; derives = ContentG.namesec (to-name a s.0) (to-subs 0 w refl s.1 t); says = refl }
to-content {p = p} (AnyContent.imports w) s u t e i y =
    let o = to-imports w s i y in
    record {
      value = Content.imports o.value;
      derives = ContentG.importsec (subst (Vec ImportG p o.value) u o.derives);
      says = ap Held.imports o.says;
    }
to-content {p = p} (AnyContent.exports w) s u t e i y =
    let o = to-exports w s e in
    record {
      value = Content.exports o.value;
      derives = ContentG.exportsec (subst (Vec ExportG p o.value) u o.derives);
      says = ap Held.exports o.says;
    }
to-content (AnyContent.unread x0 x2 x7) s u t e i y = record { value = Content.unread; derives = ContentG.othersec x0 x2 x7; says = refl }

to-section : {l r : List ℕ} {v : SectionSaid} (x : Framed AnySection l v r) → ShortSection x → UsedSection x → TidySection x
    → KnownKinds v → PlainImports v → TypedImports v → Meant SectionG section_said l v r
unfolding KnownKinds PlainImports TypedImports
to-section (framed {id = id} {p = p} n (AnySection.section c)) s u t e i y =
    let o = to-content c s.1 u t e i y in
    record {
      value = record { id = id; payload = p; holds = o.value };
      derives = SectionG.section (to-u32 n s.0) o.derives;
      says = ap (λ (h : Held). record { id = id; payload = p; holds = h }) o.says;
    }

record Listed (last : ℕ) (l : List ℕ) (vs : List SectionSaid) : Type 0 where
  value : List SectionOf
  derives : SectionsG last l value
  says : map section_said value ≡ vs

-- one section, and those after it
more-sections : {last : ℕ} {l m : List ℕ} {v : SectionSaid} {vs : List SectionSaid} (o : Meant SectionG section_said l v m)
    (us : List SectionOf)
    → SectionsG last l (o.value ∷ us) → map section_said us ≡ vs → Listed last l (v ∷ vs)
more-sections {v = v} o us s e =
    record {
      value = o.value ∷ us;
      derives = s;
      says = ap (λ (z : SectionSaid). z ∷ map section_said us) o.says ∙ ap (λ (zs : List SectionSaid). v ∷ zs) e;
    }

to-sections : {l r : List ℕ} {vs : List SectionSaid} (last : ℕ) (w : InARow (Framed AnySection) l vs r) → r ≡ []
    → EveryRow (λ l r v x. ShortSection x) w → EveryRow (λ l r v x. UsedSection x) w → EveryRow (λ l r v x. TidySection x) w
    → Each KnownId vs → InOrder last vs → Each KnownKinds vs → Each PlainImports vs → Each TypedImports vs → Listed last l vs
unfolding EveryRow KnownId
to-sections last InARow.done z s u t k o e i y = rw z (record { value = []; derives = SectionsG.end; says = refl })
to-sections last (InARow.then x w) z s u t (each-cons k ks) (InOrder.custom h o) (each-cons e es) (each-cons i is) (each-cons y ys) =
    let a = to-section x s.0 u.0 t.0 e i y in
    let b = to-sections last w z s.1 u.1 t.1 ks o es is ys in
    more-sections a b.value (SectionsG.custom (ap (λ (v : SectionSaid). v.id) a.says ∙ h) a.derives b.derives) b.says
to-sections last (InARow.then x w) z s u t (each-cons k ks) (InOrder.then {place = place} h p o) (each-cons e es) (each-cons i is)
    (each-cons y ys) =
    let a = to-section x s.0 u.0 t.0 e i y in
    let b = to-sections place w z s.1 u.1 t.1 ks o es is ys in
    let h' = subst (λ (n : ℕ). SectionPlace n place) (sym (ap (λ (v : SectionSaid). v.id) a.says)) h in
    more-sections a b.value (SectionsG.then h' p a.derives b.derives) b.says
to-sections last (InARow.then x w) z s u t (each-cons k ks) (InOrder.unknown h o) es is ys = absurd (omega arith)

-- ---- the header of version 1
header : (b : List ℕ) → AnyHeader b → version_of b ≡ 1 → 0x00 ∷ 0x61 ∷ 0x73 ∷ 0x6D ∷ 0x01 ∷ 0x00 ∷ 0x00 ∷ 0x00 ∷ drop 8 b ≡ b
header [] h e = absurd (omega (arith, h.long))
header (b0 ∷ []) h e = absurd (omega (arith, h.long))
header (b0 ∷ b1 ∷ []) h e = absurd (omega (arith, h.long))
header (b0 ∷ b1 ∷ b2 ∷ []) h e = absurd (omega (arith, h.long))
header (b0 ∷ b1 ∷ b2 ∷ b3 ∷ []) h e = absurd (omega (arith, h.long))
header (b0 ∷ b1 ∷ b2 ∷ b3 ∷ b4 ∷ []) h e = absurd (omega (arith, h.long))
header (b0 ∷ b1 ∷ b2 ∷ b3 ∷ b4 ∷ b5 ∷ []) h e = absurd (omega (arith, h.long))
header (b0 ∷ b1 ∷ b2 ∷ b3 ∷ b4 ∷ b5 ∷ b6 ∷ []) h e = absurd (omega (arith, h.long))
header (b0 ∷ b1 ∷ b2 ∷ b3 ∷ b4 ∷ b5 ∷ b6 ∷ b7 ∷ l) h e =
    let m = h.starts in
    let x4 : 1 ≡ b4 = omega (arith, e) in
    let x5 : 0 ≡ b5 = omega (arith, e) in
    let x6 : 0 ≡ b6 = omega (arith, e) in
    let x7 : 0 ≡ b7 = omega (arith, e) in
    cc

-- a clean derivation by the port's grammar is one by the specification's, with the same rows
pub strict-only : StrictOnly
unfolding ShortModule UsedModule TidyNames
strict-only b vs (AnyModule.modul h w) c =
    let o = to-sections 0 w refl c.short c.used c.names c.ids c.order c.kinds c.plain c.types in
    record {
      sections = o.value;
      derived = subst (λ (l : List ℕ). ModuleG l o.value) (header b h c.version) (ModuleG.modul o.derives);
      says = o.says;
    }
