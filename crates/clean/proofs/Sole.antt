-- The port's grammar derives a file in one way: what the derivation says, and where its parts end, is settled by the bytes. Assumes
-- nothing.
use Rattle.std.specs.Prelude.{Some, None}
use Prim.Native.Nat.{ℕ, ◌+◌, ◌%◌}
use native.Mathlib.Omega.{arith}
use mathlib.Core.Path.{◌≡◌, refl, sym, ◌∙◌, ap, subst}
use mathlib.Core.List.{List, [], ◌∷◌, ◌++◌}
use lib.ListN.{length, take, drop}
use lib.Seq.{take_at, drop_at}
use Rattle.refusal.specs.Said.{accepted, got}
use Rattle.leb.specs.Reads.{u32_at}
use Rattle.leb.proofs.Beyond.{u32-long}
use Rattle.wasm.specs.Shapes.{Limits, Desc, func, table_desc, memory, global}
use Rattle.conform.specs.Grammar.{Many, none, more, FunctionOf, SubOf, module_name, function_names}
use Rattle.conform.specs.Port.{Number, number, Named, named, Counted, counted, AnyLimits, even, odd, AnyDesc, ImportSaid, AnyImport}
use Rattle.conform.specs.Port.{imported, ExportSaid, AnyExport, exported, AnyAssoc, assoc, AnySub, Framed, framed, InARow, Held}
use Rattle.conform.specs.Port.{SectionSaid, AnyContent, AnySection, AnyModule}
use Rattle.conform.proofs.Walks.{same-got}
use Rattle.clean.specs.Rules.{taken}
use Rattle.clean.specs.Claims.{OneReading}

-- ---- numbers, and what they count
number_at : {l r : List ℕ} {v : ℕ} (n : Number l v r) → (u32_at l 0 ≡ accepted (got v (0 + taken n))) × (drop (taken n) l ≡ r)
number_at {l} {v = v} (number {k = k} d h) = (u32-long l 0 v k d h, refl)

pub number_same : {l m r s : List ℕ} {v w : ℕ} → l ≡ m → Number l v r → Number m w s → (v ≡ w) × (r ≡ s)
number_same {l} {s = s} {w = w} q n o =
    let a = number_at n in
    let p = subst (λ (i : List ℕ). Number i w s) (sym q) o in
    let b = number_at p in
    let e = same-got (sym a.0 ∙ b.0) in
    let k : taken n ≡ taken p = omega (arith, e.1) in
    (e.0, sym a.1 ∙ ap (λ (i : ℕ). drop i l) k ∙ b.1)

pub part_same : {l m r s : List ℕ} (p q : List ℕ) → l ≡ m → Number l (length p) (p ++ r) → Number m (length q) (q ++ s) → (p ≡ q) × (r ≡ s)
part_same {r = r} {s = s} p q f n o =
    let e = number_same f n o in (
      sym (take_at p r (length p) refl) ∙ ap (take (length p)) e.1 ∙ take_at q s (length p) (sym e.0),
      sym (drop_at p r (length p) refl) ∙ ap (drop (length p)) e.1 ∙ drop_at q s (length p) (sym e.0),
    )

pub name-same : {l m a b r s : List ℕ} → l ≡ m → Named l a r → Named m b s → (a ≡ b) × (r ≡ s)
name-same {a = a} {b = b} e (named n u) (named o w) = part_same a b e n o

-- a byte
pub first : {x y : ℕ} {l m : List ℕ} → x ∷ l ≡ y ∷ m → (x ≡ y) × (l ≡ m)
first e = (cc, cc)

-- ---- entries
limits-same : {l m r s : List ℕ} {v w : Limits} → l ≡ m → AnyLimits l v r → AnyLimits m w s → (v ≡ w) × (r ≡ s)
limits-same e (even {f = f} {n = n} p a) (even {f = g} {n = k} q b) =
    let x = first e in
    let y = number_same x.1 a b in (
      ap (λ (i : ℕ). record { flag = i; least = n; most = None }) x.0
          ∙ ap (λ (i : ℕ). record { flag = g; least = i; most = None }) y.0,
      y.1,
    )
limits-same e (odd {f = f} {n = n} {k = i} p a c) (odd {f = g} {n = k} {k = j} q b d) =
    let x = first e in
    let y = number_same x.1 a b in
    let z = number_same y.1 c d in (
      ap (λ (h : ℕ). record { flag = h; least = n; most = Some i }) x.0
          ∙ ap (λ (h : ℕ). record { flag = g; least = h; most = Some i }) y.0
          ∙ ap (λ (h : ℕ). record { flag = g; least = k; most = Some h }) z.0,
      z.1,
    )
limits-same e (even {f = f} p a) (odd {f = g} q b d) = absurd (unlike f g (first e).0 p q)
  where
    unlike : (f g : ℕ) → f ≡ g → f % 2 ≡ 0 → g % 2 ≡ 1 → ⊥
    unlike f g e p q = let z : ◌≡◌ {A = ℕ} 0 1 = sym p ∙ ap (λ (i : ℕ). i % 2) e ∙ q in omega arith
limits-same e (odd {f = f} p a c) (even {f = g} q b) = absurd (unlike f g (first e).0 p q)
  where
    unlike : (f g : ℕ) → f ≡ g → f % 2 ≡ 1 → g % 2 ≡ 0 → ⊥
    unlike f g e p q = let z : ◌≡◌ {A = ℕ} 1 0 = sym p ∙ ap (λ (i : ℕ). i % 2) e ∙ q in omega arith

desc-same : {i j : ℕ} {l m r s : List ℕ} {v w : Desc} → i ≡ j → l ≡ m → AnyDesc i l v r → AnyDesc j m w s → (v ≡ w) × (r ≡ s)
desc-same k e (AnyDesc.function a) (AnyDesc.function b) = let x = number_same e a b in (ap func x.0, x.1)
desc-same k e (AnyDesc.tables {e = t} {m = v} a) (AnyDesc.tables {e = u} {m = w} b) =
    let x = first e in
    let y = limits-same x.1 a b in
    (ap (λ (i : ℕ). table_desc i v) x.0 ∙ ap (table_desc u) y.0, y.1)
desc-same k e (AnyDesc.memories a) (AnyDesc.memories b) = let x = limits-same e a b in (ap memory x.0, x.1)
desc-same k e (AnyDesc.globals {t = t} {m = v}) (AnyDesc.globals {t = u} {m = w}) =
    let x = first e in
    let y = first x.1 in
    (ap (λ (i : ℕ). global i v) x.0 ∙ ap (global u) y.0, y.1)
desc-same k e (AnyDesc.function a) (AnyDesc.tables b) = absurd (omega arith)
desc-same k e (AnyDesc.function a) (AnyDesc.memories b) = absurd (omega arith)
desc-same k e (AnyDesc.function a) AnyDesc.globals = absurd (omega arith)
desc-same k e (AnyDesc.tables a) (AnyDesc.function b) = absurd (omega arith)
desc-same k e (AnyDesc.tables a) (AnyDesc.memories b) = absurd (omega arith)
desc-same k e (AnyDesc.tables a) AnyDesc.globals = absurd (omega arith)
desc-same k e (AnyDesc.memories a) (AnyDesc.function b) = absurd (omega arith)
desc-same k e (AnyDesc.memories a) (AnyDesc.tables b) = absurd (omega arith)
desc-same k e (AnyDesc.memories a) AnyDesc.globals = absurd (omega arith)
desc-same k e AnyDesc.globals (AnyDesc.function b) = absurd (omega arith)
desc-same k e AnyDesc.globals (AnyDesc.tables b) = absurd (omega arith)
desc-same k e AnyDesc.globals (AnyDesc.memories b) = absurd (omega arith)

import-same : {l m r s : List ℕ} {v w : ImportSaid} → l ≡ m → AnyImport l v r → AnyImport m w s → (v ≡ w) × (r ≡ s)
import-same e (imported a b d) (imported a' b' d') =
    let x = name-same e a a' in
    let y = name-same x.1 b b' in
    let k = first y.1 in
    let z = desc-same k.0 k.1 d d' in
    (said x.0 y.0 k.0 z.0, z.1)
  where
    said : {a a' b b' : List ℕ} {k k' : ℕ} {d d' : Desc} → a ≡ a' → b ≡ b' → k ≡ k' → d ≡ d'
        → ◌≡◌ {A = ImportSaid} (record { from = a; name = b; kind = k; desc = d }) (record { from = a'; name = b'; kind = k'; desc = d' })
    said p q r s = cc

export-same : {l m r s : List ℕ} {v w : ExportSaid} → l ≡ m → AnyExport l v r → AnyExport m w s → (v ≡ w) × (r ≡ s)
export-same e (exported a n) (exported b o) =
    let x = name-same e a b in
    let k = first x.1 in
    let y = number_same k.1 n o in
    (said x.0 k.0 y.0, y.1)
  where
    said : {a b : List ℕ} {k i x y : ℕ} → a ≡ b → k ≡ i → x ≡ y
        → ◌≡◌ {A = ExportSaid} (record { name = a; kind = k; index = x }) (record { name = b; kind = i; index = y })
    said p q r = cc

assoc-same : {l m r s : List ℕ} {v w : FunctionOf} → l ≡ m → AnyAssoc l v r → AnyAssoc m w s → (v ≡ w) × (r ≡ s)
assoc-same e (assoc n a) (assoc o b) =
    let x = number_same e n o in
    let y = name-same x.1 a b in
    (said x.0 y.0, y.1)
  where
    said : {a b : List ℕ} {x y : ℕ} → x ≡ y → a ≡ b
        → ◌≡◌ {A = FunctionOf} (record { index = x; name = a }) (record { index = y; name = b })
    said p q = cc

-- ---- runs of them
module _ {X : Type 0} (B : List ℕ → X → List ℕ → Type 0)
    (one : (l m r s : List ℕ) (v w : X) → l ≡ m → B l v r → B m w s → (v ≡ w) × (r ≡ s)) where
  many-same : {n k : ℕ} {l m r s : List ℕ} {vs ws : List X} → n ≡ k → l ≡ m → Many B n l vs r → Many B k m ws s → (vs ≡ ws) × (r ≡ s)
  many-same q e none none = (refl, e)
  many-same q e none (more y o) = absurd (omega arith)
  many-same q e (more x w) none = absurd (omega arith)
  many-same q e (more {v = v} {vs = vs} x w) (more {v = u} y o) =
      let a = one _ _ _ _ _ _ e x y in
      let b = many-same (omega arith) a.1 w o in
      (ap (λ (i : X). i ∷ vs) a.0 ∙ ap (λ (is : List X). u ∷ is) b.0, b.1)

  pub counted_same : {l m r s : List ℕ} {vs ws : List X} → l ≡ m → Counted B l vs r → Counted B m ws s → (vs ≡ ws) × (r ≡ s)
  counted_same e (counted n w) (counted o u) = let x = number_same e n o in many-same x.0 x.1 w u

pub assocs-same : {l m r s : List ℕ} {vs ws : List FunctionOf} → l ≡ m → Counted AnyAssoc l vs r → Counted AnyAssoc m ws s
    → (vs ≡ ws) × (r ≡ s)
assocs-same e a b = counted_same AnyAssoc (λ l m r s v w e x y. assoc-same e x y) e a b

-- ---- name sections
sub_same : {i j : ℕ} {p q : List ℕ} {v w : SubOf} → i ≡ j → p ≡ q → AnySub i p v → AnySub j q w → v ≡ w
sub_same k e (AnySub.modulename a) (AnySub.modulename b) = ap module_name (name-same e a b).0
sub_same k e (AnySub.funcnames a) (AnySub.funcnames b) = ap function_names (assocs-same e a b).0
sub_same k e (AnySub.others h) (AnySub.others g) = ap SubOf.other e
sub_same k e (AnySub.modulename a) (AnySub.funcnames b) = absurd (omega arith)
sub_same k e (AnySub.modulename a) (AnySub.others b) = absurd (omega arith)
sub_same k e (AnySub.funcnames a) (AnySub.modulename b) = absurd (omega arith)
sub_same k e (AnySub.funcnames a) (AnySub.others b) = absurd (omega arith)
sub_same k e (AnySub.others a) (AnySub.modulename b) = absurd (omega arith)
sub_same k e (AnySub.others a) (AnySub.funcnames b) = absurd (omega arith)

longer : {x : ℕ} {l : List ℕ} → [] ≡ x ∷ l → ⊥
longer e = let z : ◌≡◌ {A = ℕ} 0 1 = cc in omega arith

-- an id, a size and so many bytes, to the end
module _ {X : Type 0} (C : ℕ → List ℕ → X → Type 0)
    (one : (i j : ℕ) (p q : List ℕ) (v w : X) → i ≡ j → p ≡ q → C i p v → C j q w → v ≡ w) where
  row_same : {l m r s : List ℕ} {vs ws : List X} → l ≡ m → r ≡ [] → s ≡ [] → InARow (Framed C) l vs r → InARow (Framed C) m ws s → vs ≡ ws
  row_same e f g InARow.done InARow.done = refl
  row_same e f g InARow.done (InARow.then (framed o d) u) = absurd (longer (sym f ∙ e))
  row_same e f g (InARow.then (framed n c) w) InARow.done = absurd (longer (sym (e ∙ g)))
  row_same e f g (InARow.then {vs = vs} (framed {id = i} {p = p} n c) w) (InARow.then {v = v} (framed {id = j} {p = q} o d) u) =
      let x = first e in
      let y = part_same p q x.1 n o in
      ap (λ (a : X). a ∷ vs) (one i j p q _ _ x.0 y.0 c d) ∙ ap (λ (os : List X). v ∷ os) (row_same y.1 f g w u)

-- ---- sections
content-same : {i j : ℕ} {p q : List ℕ} {c d : Held} → i ≡ j → p ≡ q → AnyContent i p c → AnyContent j q d → c ≡ d
content-same k e (AnyContent.custom a h) (AnyContent.custom b g) = ap Held.custom (name-same e a b).0
content-same k e (AnyContent.custom a h) (AnyContent.names b w) = absurd (h (name-same e a b).0)
content-same k e (AnyContent.names a w) (AnyContent.custom b g) = absurd (g (sym (name-same e a b).0))
content-same k e (AnyContent.names a w) (AnyContent.names b u) =
    ap Held.names (row_same AnySub (λ i j p q v w k e x y. sub_same k e x y) (name-same e a b).1 refl refl w u)
content-same k e (AnyContent.imports a) (AnyContent.imports b) =
    ap Held.imports (counted_same AnyImport (λ l m r s v w e x y. import-same e x y) e a b).0
content-same k e (AnyContent.exports a) (AnyContent.exports b) =
    ap Held.exports (counted_same AnyExport (λ l m r s v w e x y. export-same e x y) e a b).0
content-same k e (AnyContent.unread a0 a2 a7) (AnyContent.unread b0 b2 b7) = refl
content-same k e (AnyContent.unread a0 a2 a7) (AnyContent.custom b g) = absurd (a0 k)
content-same k e (AnyContent.unread a0 a2 a7) (AnyContent.names b w) = absurd (a0 k)
content-same k e (AnyContent.unread a0 a2 a7) (AnyContent.imports b) = absurd (a2 k)
content-same k e (AnyContent.unread a0 a2 a7) (AnyContent.exports b) = absurd (a7 k)
content-same k e (AnyContent.custom a h) (AnyContent.unread b0 b2 b7) = absurd (b0 (sym k))
content-same k e (AnyContent.names a w) (AnyContent.unread b0 b2 b7) = absurd (b0 (sym k))
content-same k e (AnyContent.imports a) (AnyContent.unread b0 b2 b7) = absurd (b2 (sym k))
content-same k e (AnyContent.exports a) (AnyContent.unread b0 b2 b7) = absurd (b7 (sym k))
content-same k e (AnyContent.custom a h) (AnyContent.imports b) = absurd (omega arith)
content-same k e (AnyContent.custom a h) (AnyContent.exports b) = absurd (omega arith)
content-same k e (AnyContent.names a w) (AnyContent.imports b) = absurd (omega arith)
content-same k e (AnyContent.names a w) (AnyContent.exports b) = absurd (omega arith)
content-same k e (AnyContent.imports a) (AnyContent.custom b g) = absurd (omega arith)
content-same k e (AnyContent.imports a) (AnyContent.names b w) = absurd (omega arith)
content-same k e (AnyContent.imports a) (AnyContent.exports b) = absurd (omega arith)
content-same k e (AnyContent.exports a) (AnyContent.custom b g) = absurd (omega arith)
content-same k e (AnyContent.exports a) (AnyContent.names b w) = absurd (omega arith)
content-same k e (AnyContent.exports a) (AnyContent.imports b) = absurd (omega arith)

section-same : {i j : ℕ} {p q : List ℕ} {v w : SectionSaid} → i ≡ j → p ≡ q → AnySection i p v → AnySection j q w → v ≡ w
section-same k e (AnySection.section c) (AnySection.section d) = said k e (content-same k e c d)
  where
    said : {i j : ℕ} {p q : List ℕ} {c d : Held} → i ≡ j → p ≡ q → c ≡ d
        → ◌≡◌ {A = SectionSaid} (record { id = i; payload = p; holds = c }) (record { id = j; payload = q; holds = d })
    said x y z = cc

-- the port's grammar derives a file as one list of sections
pub one-reading : OneReading
one-reading b vs ws (AnyModule.modul h w) (AnyModule.modul k o) =
    row_same AnySection (λ i j p q v w k e x y. section-same k e x y) refl refl refl w o
