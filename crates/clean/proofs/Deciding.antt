-- Every difference from the specification's grammar is one of a list. Assumes nothing.
use Prim.Native.Nat.{ℕ, suc, ◌^◌, ◌≤◌, ◌<◌}
use native.Mathlib.Omega.{arith}
use mathlib.Core.Path.{◌≡◌, refl, subst}
use mathlib.Core.Logic.{◌⊎◌, inl, inr, ◌↔◌}
use mathlib.Core.Bool.{Bool, true, false}
use mathlib.Core.List.{List, [], ◌∷◌}
use lib.ListN.{length}
use lib.Dec.{leb, eqb}
use borrow.Author.Tests.{leb-true, le-leb, eqb-true, eq-eqb}
use Rattle.refusal.specs.Each.{Each, each_nil, each-cons}
use Rattle.wasm.specs.Shapes.{Limits, Desc, table_desc, global}
use Rattle.conform.specs.Grammar.{Many, none, more, funcref, externref, ref_byte, i32, i64, f32, f64, v128, ref, val_byte, FunctionOf}
use Rattle.conform.specs.Grammar.{Rising, SubOf}
use Rattle.conform.specs.Port.{counted, AnyDesc, ImportSaid, AnyImport, imported, AnySub, Framed, framed, InARow, Held, SectionSaid}
use Rattle.conform.specs.Port.{AnyContent, AnySection, AnyModule, version_of}
use Rattle.strict.specs.Again.{fresh}
use Rattle.clean.specs.Rules.{EveryRow, KnownKind, OfExports, OfImports, KnownKinds, RefByte, refbyte, ValByte, valbyte, TypedDesc}
use Rattle.clean.specs.Rules.{TypedImport, TypedImports, TidySub, TidySubs, TidyContent, TidySection, TidyNames, Rule}
use Rattle.clean.specs.Claims.{CleanModule, Differs, AllDifferences}
use Rattle.clean.proofs.Rewalked.{marks-tell-rules}
use Rattle.clean.proofs.Tabled.{known-ids, in_order}
use Rattle.clean.proofs.Alike.{exactly-clean}

-- ---- one or the other
abbrev Decided : Type 0 → Type 0
Decided A = A ⊎ (A → ⊥)

by-test : (t : Bool) {A : Type 0} → (t ≡ true) ↔ A → Decided A
by-test true f = inl (f.0 refl)
by-test false f = inr (λ a. no (f.1 a))
  where
    no : false ≡ true → ⊥
    no e = let z : ◌≡◌ {A = ℕ} 0 1 = cc in omega arith

no_more : (a b : ℕ) → Decided (a ≤ b)
no_more a b = by-test (leb a b) (leb-true a b, le-leb a b)

equal : (a b : ℕ) → Decided (a ≡ b)
equal a b = by-test (eqb a b) (eqb-true a b, eq-eqb a b)

either : {A B : Type 0} → Decided A → (A → Decided B) → ((A → ⊥) → Decided B) → Decided B
either (inl a) f g = f a
either (inr n) f g = g n

and : {A B : Type 0} → Decided A → Decided B → Decided (A × B)
and (inl a) (inl b) = inl (a, b)
and (inl a) (inr n) = inr (λ w. n w.1)
and (inr n) b = inr (λ w. n w.0)

instead : {A B : Type 0} → (A → B) → (B → A) → Decided A → Decided B
instead f g (inl a) = inl (f a)
instead f g (inr n) = inr (λ b. n (g b))

nothing_left : (r : List ℕ) → Decided (r ≡ [])
nothing_left [] = inl refl
nothing_left (x ∷ r) = inr (λ e. let z : ◌≡◌ {A = ℕ} 0 1 = cc in omega arith)

apart : {E : Type 0} {P : E → Type 0} {e : E} {es : List E} → Each P (e ∷ es) → P e × Each P es
apart (each-cons p ps) = (p, ps)

each : {E : Type 0} (P : E → Type 0) → ((e : E) → Decided (P e)) → (es : List E) → Decided (Each P es)
each P f [] = inl each_nil
each P f (e ∷ es) = instead (λ w. each-cons w.0 w.1) apart (and (f e) (each P f es))

-- ---- export kinds
known-kinds : (v : SectionSaid) → Decided (KnownKinds v)
unfolding KnownKinds KnownKind
known-kinds v = by v.holds where
  by : (c : Held) → Decided (OfExports (Each KnownKind) c)
  by (Held.custom n) = inl tt
  by (Held.names vs) = inl tt
  by (Held.imports vs) = inl tt
  by (Held.exports vs) = each KnownKind (λ e. no_more e.kind 3) vs
  by Held.unread = inl tt

-- ---- type bytes
ref-byte : (e : ℕ) → Decided (RefByte e)
ref-byte e =
    either (equal (ref_byte funcref) e) (λ q. inl (subst RefByte q (refbyte funcref))) (λ n.
    either (equal (ref_byte externref) e) (λ q. inl (subst RefByte q (refbyte externref))) (λ k.
    inr (λ r. none_of n k r)))
  where
    none_of : {e : ℕ} → (ref_byte funcref ≡ e → ⊥) → (ref_byte externref ≡ e → ⊥) → RefByte e → ⊥
    none_of n k (refbyte funcref) = n refl
    none_of n k (refbyte externref) = k refl

val-byte : (e : ℕ) → Decided (ValByte e)
val-byte e =
    either (equal (val_byte i32) e) (λ q. inl (subst ValByte q (valbyte i32))) (λ n1.
    either (equal (val_byte i64) e) (λ q. inl (subst ValByte q (valbyte i64))) (λ n2.
    either (equal (val_byte f32) e) (λ q. inl (subst ValByte q (valbyte f32))) (λ n3.
    either (equal (val_byte f64) e) (λ q. inl (subst ValByte q (valbyte f64))) (λ n4.
    either (equal (val_byte v128) e) (λ q. inl (subst ValByte q (valbyte v128))) (λ n5.
    either (ref-byte e) (λ r. inl (of_ref r)) (λ n6.
    inr (λ v. none_of n1 n2 n3 n4 n5 n6 v)))))))
  where
    of_ref : {e : ℕ} → RefByte e → ValByte e
    of_ref (refbyte t) = valbyte (ref t)

    none_of : {e : ℕ} → (val_byte i32 ≡ e → ⊥) → (val_byte i64 ≡ e → ⊥) → (val_byte f32 ≡ e → ⊥) → (val_byte f64 ≡ e → ⊥)
        → (val_byte v128 ≡ e → ⊥) → (RefByte e → ⊥) → ValByte e → ⊥
    none_of n1 n2 n3 n4 n5 n6 (valbyte i32) = n1 refl
    none_of n1 n2 n3 n4 n5 n6 (valbyte i64) = n2 refl
    none_of n1 n2 n3 n4 n5 n6 (valbyte f32) = n3 refl
    none_of n1 n2 n3 n4 n5 n6 (valbyte f64) = n4 refl
    none_of n1 n2 n3 n4 n5 n6 (valbyte v128) = n5 refl
    none_of n1 n2 n3 n4 n5 n6 (valbyte (ref t)) = n6 (refbyte t)

typed-desc : {kind : ℕ} {l r : List ℕ} {d : Desc} → AnyDesc kind l d r → Decided (TypedDesc d)
typed-desc (AnyDesc.function n) = inl TypedDesc.function
typed-desc (AnyDesc.tables {e = e} w) = instead TypedDesc.tables back (ref-byte e)
  where
    back : {e : ℕ} {m : Limits} → TypedDesc (table_desc e m) → RefByte e
    back (TypedDesc.tables r) = r
typed-desc (AnyDesc.memories w) = inl TypedDesc.memories
typed-desc (AnyDesc.globals {t = t}) = instead TypedDesc.globals back (val-byte t)
  where
    back : {t m : ℕ} → TypedDesc (global t m) → ValByte t
    back (TypedDesc.globals r) = r

typed-import : {l r : List ℕ} {v : ImportSaid} → AnyImport l v r → Decided (TypedImport v)
unfolding TypedImport
typed-import (imported a b d) = typed-desc d

typed-many : {n : ℕ} {l r : List ℕ} {vs : List ImportSaid} → Many AnyImport n l vs r → Decided (Each TypedImport vs)
typed-many none = inl each_nil
typed-many (more x w) = instead (λ w. each-cons w.0 w.1) apart (and (typed-import x) (typed-many w))

typed-content : {id : ℕ} {p : List ℕ} {c : Held} → AnyContent id p c → Decided (OfImports (Each TypedImport) c)
typed-content (AnyContent.custom a h) = inl tt
typed-content (AnyContent.names a w) = inl tt
typed-content (AnyContent.imports (counted n w)) = typed-many w
typed-content (AnyContent.exports w) = inl tt
typed-content (AnyContent.unread x y z) = inl tt

typed-sections : {l r : List ℕ} {vs : List SectionSaid} → InARow (Framed AnySection) l vs r → Decided (Each TypedImports vs)
unfolding TypedImports
typed-sections InARow.done = inl each_nil
typed-sections (InARow.then (framed n (AnySection.section c)) w) =
    instead (λ w. each-cons w.0 w.1) apart (and (typed-content c) (typed-sections w))

-- ---- name sections
rising : (low : ℕ) (fs : List FunctionOf) → Decided (Rising low fs)
rising low [] = inl Rising.end
rising low (f ∷ fs) = instead (λ w. Rising.then w.0 w.1) back (and (no_more low f.index) (rising (suc f.index) fs))
  where
    back : {low : ℕ} {f : FunctionOf} {fs : List FunctionOf} → Rising low (f ∷ fs) → (low ≤ f.index) × Rising (suc f.index) fs
    back (Rising.then h r) = (h, r)

tidy-sub : {id : ℕ} {p : List ℕ} {v : SubOf} (x : AnySub id p v) → Decided (TidySub x)
tidy-sub (AnySub.modulename {r = r} a) = nothing_left r
tidy-sub (AnySub.funcnames {r = r} {vs = vs} w) = and (nothing_left r) (rising 0 vs)
tidy-sub (AnySub.others h) = inl tt

tidy-subs : {l r : List ℕ} {vs : List SubOf} (low : ℕ) (w : InARow (Framed AnySub) l vs r) → Decided (TidySubs low w)
unfolding TidySubs
tidy-subs low InARow.done = inl tt
tidy-subs low (InARow.then (framed {id = id} n c) w) =
    instead (λ w. (w.0, w.1.0, w.1.1)) (λ w. (w.0, (w.1, w.2))) (and (no_more low id) (and (tidy-sub c) (tidy-subs (suc id) w)))

tidy-content : {id : ℕ} {p : List ℕ} {c : Held} (x : AnyContent id p c) → Decided (TidyContent x)
tidy-content (AnyContent.custom a h) = inl tt
tidy-content (AnyContent.names a w) = tidy-subs 0 w
tidy-content (AnyContent.imports w) = inl tt
tidy-content (AnyContent.exports w) = inl tt
tidy-content (AnyContent.unread x y z) = inl tt

tidy-sections : {l r : List ℕ} {vs : List SectionSaid} (w : InARow (Framed AnySection) l vs r)
    → Decided (EveryRow (λ l r v x. TidySection x) w)
unfolding EveryRow
tidy-sections InARow.done = inl tt
tidy-sections (InARow.then (framed n (AnySection.section c)) w) = and (tidy-content c) (tidy-sections w)

-- ---- a module
module _ {b : List ℕ} {vs : List SectionSaid} (d : AnyModule b vs) (size : length b < 2 ^ 64) where
  typed : Decided (Each TypedImports vs)
  typed = by d where
    by : AnyModule b vs → Decided (Each TypedImports vs)
    by (AnyModule.modul h w) = typed-sections w

  tidy : Decided (TidyNames d)
  unfolding TidyNames
  tidy = by d where
    by : (d : AnyModule b vs) → Decided (TidyNames d)
    by (AnyModule.modul h w) = tidy-sections w

  short : Decided (Rule d 2)
  unfolding fresh
  short = let o = marks-tell-rules d size in by-test o.marks.short (λ e. (o.judged.short.0 e).1, λ r. o.judged.short.1 (refl, r))

  used : Decided (Rule d 5)
  unfolding fresh
  used = let o = marks-tell-rules d size in by-test o.marks.used (λ e. (o.judged.used.0 e).1, λ r. o.judged.used.1 (refl, r))

  plain : Decided (Rule d 8)
  unfolding fresh
  plain = let o = marks-tell-rules d size in by-test o.marks.plain (λ e. (o.judged.plain.0 e).1, λ r. o.judged.plain.1 (refl, r))

  -- the first that fails, or none
  asks : {A C : Type 0} → Decided A → ((A → ⊥) → Differs d) → (A → C ⊎ Differs d) → C ⊎ Differs d
  asks (inl a) f g = g a
  asks (inr n) f g = inr (f n)

  which : CleanModule d ⊎ Differs d
  which =
      asks (equal (version_of b) 1) Differs.version (λ r1.
      asks short Differs.numbers (λ r2.
      asks (by-test _ (known-ids vs)) Differs.ids (λ r3.
      asks (by-test _ (in_order 0 vs r3)) Differs.order (λ r4.
      asks used Differs.unused (λ r5.
      asks (each _ known-kinds vs) Differs.kinds (λ r7.
      asks plain Differs.flags (λ r8.
      asks typed Differs.types (λ t.
      asks tidy Differs.names (λ n.
      inl (record { version = r1; short = r2; ids = r3; order = r4; used = r5; kinds = r7; plain = r8; types = t; names = n }))))))))))

not-clean : {b : List ℕ} {vs : List SectionSaid} {d : AnyModule b vs} → Differs d → CleanModule d → ⊥
not-clean (Differs.version n) c = n c.version
not-clean (Differs.numbers n) c = n c.short
not-clean (Differs.ids n) c = n c.ids
not-clean (Differs.order n) c = n c.order
not-clean (Differs.unused n) c = n c.used
not-clean (Differs.kinds n) c = n c.kinds
not-clean (Differs.flags n) c = n c.plain
not-clean (Differs.types n) c = n c.types
not-clean (Differs.names n) c = n c.names

pub all-differences : AllDifferences
all-differences b vs d bytes small =
    let e = exactly-clean b vs d bytes small in
    record { complete = said e.1 (which d (omega arith)); real = λ f s. not-clean f (e.0 s) }
  where
    said : {A C D : Type 0} → (A → C) → A ⊎ D → C ⊎ D
    said f (inl a) = inl (f a)
    said f (inr n) = inr n
