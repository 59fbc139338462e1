-- docs/RULES.md, "Strict reading": the eight rules, over a derivation by the port's grammar and apart from any code; and what besides
-- them the specification's grammar asks of what is read: type bytes, and the inside of name sections. Assumes nothing.
use Rattle.std.specs.Prelude.{ℕ, zero, suc, ◌≤◌, ◌<◌, ◌≡◌, List, [], ◌∷◌}
use Rattle.refusal.specs.Each.{Each}
use Rattle.wasm.specs.Shapes.{Limits, Desc, func, table_desc, memory, global}
use Rattle.conform.specs.Grammar.{Many, none, more, RefType, ref_byte, ValType, val_byte, FunctionOf, Rising, SubOf, SectionPlace}
use Rattle.conform.specs.Port.{Number, number, Named, named, Counted, counted, AnyLimits, even, odd, AnyDesc, ImportSaid, AnyImport}
use Rattle.conform.specs.Port.{imported, ExportSaid, AnyExport, exported, AnyAssoc, assoc, AnySub, Framed, framed, InARow, Held}
use Rattle.conform.specs.Port.{SectionSaid, AnyContent, AnySection, version_of, AnyModule}

-- ---- all along a run of entries or sections
module _ {X : Type 0} {B : List ℕ → X → List ℕ → Type 0} (Q : (l r : List ℕ) (v : X) → B l v r → Type 0) where
  unfoldable pub EveryMany : {n : ℕ} {l r : List ℕ} {vs : List X} → Many B n l vs r → Type 0
  EveryMany none = Unit {0}
  EveryMany (more {l = l} {m = m} {v = v} x y) = Q l m v x × EveryMany y

  unfoldable pub EveryRow : {l r : List ℕ} {vs : List X} → InARow B l vs r → Type 0
  EveryRow InARow.done = Unit {0}
  EveryRow (InARow.then {l = l} {m = m} {v = v} x y) = Q l m v x × EveryRow y

-- ---- rule 2: how many bytes a number takes
abbrev pub taken : {l r : List ℕ} {v : ℕ} → Number l v r → ℕ
taken (number {k = k} u h) = k

abbrev pub ShortNumber : {l r : List ℕ} {v : ℕ} → Number l v r → Type 0
ShortNumber n = taken n ≤ 5

abbrev pub ShortName : {l b r : List ℕ} → Named l b r → Type 0
ShortName (named n u) = ShortNumber n

abbrev pub ShortLimits : {l r : List ℕ} {m : Limits} → AnyLimits l m r → Type 0
ShortLimits (even p n) = ShortNumber n
ShortLimits (odd p n k) = ShortNumber n × ShortNumber k

abbrev pub ShortDesc : {kind : ℕ} {l r : List ℕ} {d : Desc} → AnyDesc kind l d r → Type 0
ShortDesc (AnyDesc.function n) = ShortNumber n
ShortDesc (AnyDesc.tables m) = ShortLimits m
ShortDesc (AnyDesc.memories m) = ShortLimits m
ShortDesc AnyDesc.globals = Unit {0}

abbrev pub ShortImport : {l r : List ℕ} {v : ImportSaid} → AnyImport l v r → Type 0
ShortImport (imported a b d) = ShortName a × ShortName b × ShortDesc d

abbrev pub ShortExport : {l r : List ℕ} {v : ExportSaid} → AnyExport l v r → Type 0
ShortExport (exported a n) = ShortName a × ShortNumber n

abbrev pub ShortAssoc : {l r : List ℕ} {v : FunctionOf} → AnyAssoc l v r → Type 0
ShortAssoc (assoc n a) = ShortNumber n × ShortName a

-- in a vector
abbrev pub ShortImports : {l r : List ℕ} {vs : List ImportSaid} → Counted AnyImport l vs r → Type 0
ShortImports (counted n w) = ShortNumber n × EveryMany (λ l r v x. ShortImport x) w

abbrev pub ShortExports : {l r : List ℕ} {vs : List ExportSaid} → Counted AnyExport l vs r → Type 0
ShortExports (counted n w) = ShortNumber n × EveryMany (λ l r v x. ShortExport x) w

abbrev pub ShortAssocs : {l r : List ℕ} {vs : List FunctionOf} → Counted AnyAssoc l vs r → Type 0
ShortAssocs (counted n w) = ShortNumber n × EveryMany (λ l r v x. ShortAssoc x) w

-- in a name section: nothing of subsections 2 and up
abbrev pub ShortSub : {id : ℕ} {p : List ℕ} {v : SubOf} → AnySub id p v → Type 0
ShortSub (AnySub.modulename a) = ShortName a
ShortSub (AnySub.funcnames w) = ShortAssocs w
ShortSub (AnySub.others h) = Unit {0}

abbrev pub ShortSubsection : {l r : List ℕ} {v : SubOf} → Framed AnySub l v r → Type 0
ShortSubsection (framed n c) = ShortNumber n × ShortSub c

-- in a section: nothing of those that are not read
abbrev pub ShortContent : {id : ℕ} {p : List ℕ} {c : Held} → AnyContent id p c → Type 0
ShortContent (AnyContent.custom a h) = ShortName a
ShortContent (AnyContent.names a w) = ShortName a × EveryRow (λ l r v x. ShortSubsection x) w
ShortContent (AnyContent.imports w) = ShortImports w
ShortContent (AnyContent.exports w) = ShortExports w
ShortContent (AnyContent.unread x y z) = Unit {0}

abbrev pub ShortSection : {l r : List ℕ} {v : SectionSaid} → Framed AnySection l v r → Type 0
ShortSection (framed n (AnySection.section c)) = ShortNumber n × ShortContent c

-- ---- rule 5: nothing is left after the last import and the last export
abbrev pub UsedContent : {id : ℕ} {p : List ℕ} {c : Held} → AnyContent id p c → Type 0
UsedContent (AnyContent.custom a h) = Unit {0}
UsedContent (AnyContent.names a w) = Unit {0}
UsedContent (AnyContent.imports {r = r} w) = r ≡ []
UsedContent (AnyContent.exports {r = r} w) = r ≡ []
UsedContent (AnyContent.unread x y z) = Unit {0}

abbrev pub UsedSection : {l r : List ℕ} {v : SectionSaid} → Framed AnySection l v r → Type 0
UsedSection (framed n (AnySection.section c)) = UsedContent c

-- ---- rules 3, 4, 6, 7, 8: over what the sections say
-- 0 to 12
unfoldable pub KnownId : SectionSaid → Type 0
KnownId v = v.id ≤ 12

-- sections 1 to 12 at most once and in order, after those of places up to `last`; custom sections, and ids that rule 3 refuses, anywhere
pub data InOrder : ℕ → List SectionSaid → Type 0 where
  end : {last : ℕ} → InOrder last []
  custom : {last : ℕ} {v : SectionSaid} {vs : List SectionSaid} → v.id ≡ 0 → InOrder last vs → InOrder last (v ∷ vs)
  then : {last place : ℕ} {v : SectionSaid} {vs : List SectionSaid} → SectionPlace v.id place → last < place → InOrder place vs
      → InOrder last (v ∷ vs)
  unknown : {last : ℕ} {v : SectionSaid} {vs : List SectionSaid} → 12 < v.id → InOrder last vs → InOrder last (v ∷ vs)

-- an export is not named so
unfoldable pub NotNamed : List ℕ → ExportSaid → Type 0
NotNamed a e = e.name ≡ a → ⊥

-- no export has the name of one after it
pub data Different : List ExportSaid → Type 0 where
  end : Different []
  then : {e : ExportSaid} {es : List ExportSaid} → Each (NotNamed e.name) es → Different es → Different (e ∷ es)

-- 0 to 3: function, table, memory, global
unfoldable pub KnownKind : ExportSaid → Type 0
KnownKind e = e.kind ≤ 3

-- a limits flag, and a mutability, is 0 or 1
pub data PlainDesc : Desc → Type 0 where
  function : {x : ℕ} → PlainDesc (func x)
  tables : {e : ℕ} {m : Limits} → m.flag ≤ 1 → PlainDesc (table_desc e m)
  memories : {m : Limits} → m.flag ≤ 1 → PlainDesc (memory m)
  globals : {t m : ℕ} → m ≤ 1 → PlainDesc (global t m)

unfoldable pub PlainImport : ImportSaid → Type 0
PlainImport i = PlainDesc i.desc

-- of the exports, of the imports of a section
abbrev pub OfExports : (List ExportSaid → Type 0) → Held → Type 0
OfExports P (Held.custom n) = Unit {0}
OfExports P (Held.names vs) = Unit {0}
OfExports P (Held.imports vs) = Unit {0}
OfExports P (Held.exports vs) = P vs
OfExports P Held.unread = Unit {0}

abbrev pub OfImports : (List ImportSaid → Type 0) → Held → Type 0
OfImports P (Held.custom n) = Unit {0}
OfImports P (Held.names vs) = Unit {0}
OfImports P (Held.imports vs) = P vs
OfImports P (Held.exports vs) = Unit {0}
OfImports P Held.unread = Unit {0}

unfoldable pub DifferentNames : SectionSaid → Type 0
DifferentNames v = OfExports Different v.holds

unfoldable pub KnownKinds : SectionSaid → Type 0
KnownKinds v = OfExports (Each KnownKind) v.holds

unfoldable pub PlainImports : SectionSaid → Type 0
PlainImports v = OfImports (Each PlainImport) v.holds

-- ---- the eight rules
unfoldable pub ShortModule : {b : List ℕ} {vs : List SectionSaid} → AnyModule b vs → Type 0
ShortModule (AnyModule.modul h w) = EveryRow (λ l r v x. ShortSection x) w

unfoldable pub UsedModule : {b : List ℕ} {vs : List SectionSaid} → AnyModule b vs → Type 0
UsedModule (AnyModule.modul h w) = EveryRow (λ l r v x. UsedSection x) w

-- A for 0, and F for the numbers after it
abbrev pub by_number : Type 0 → (ℕ → Type 0) → ℕ → Type 0
by_number A F zero = A
by_number A F (suc n) = F n

-- rule i of a derivation; a number that is none asks nothing
abbrev pub Rule : {b : List ℕ} {vs : List SectionSaid} → AnyModule b vs → ℕ → Type 0
Rule {b} {vs} d =
    by_number (Unit {0})
    -- 1: the version
    (by_number (version_of b ≡ 1)
    -- 2: each number takes at most five bytes
    (by_number (ShortModule d)
    -- 3: the ids
    (by_number (Each KnownId vs)
    -- 4: the order
    (by_number (InOrder 0 vs)
    -- 5: imports and exports are used to the last byte
    (by_number (UsedModule d)
    -- 6: the names of exports
    (by_number (Each DifferentNames vs)
    -- 7: the kinds of exports
    (by_number (Each KnownKinds vs)
    -- 8: flags and mutability
    (by_number (Each PlainImports vs) (λ n. Unit {0})))))))))

-- ---- what no rule asks and the specification's grammar does
-- type bytes: a table's element type, a global's value type
pub data RefByte : ℕ → Type 0 where
  refbyte : (t : RefType) → RefByte (ref_byte t)

pub data ValByte : ℕ → Type 0 where
  valbyte : (t : ValType) → ValByte (val_byte t)

pub data TypedDesc : Desc → Type 0 where
  function : {x : ℕ} → TypedDesc (func x)
  tables : {e : ℕ} {m : Limits} → RefByte e → TypedDesc (table_desc e m)
  memories : {m : Limits} → TypedDesc (memory m)
  globals : {t m : ℕ} → ValByte t → TypedDesc (global t m)

unfoldable pub TypedImport : ImportSaid → Type 0
TypedImport i = TypedDesc i.desc

unfoldable pub TypedImports : SectionSaid → Type 0
TypedImports v = OfImports (Each TypedImport) v.holds

-- a name section's subsections 0 and 1 are used to their last byte, function indices rise
abbrev pub TidySub : {id : ℕ} {p : List ℕ} {v : SubOf} → AnySub id p v → Type 0
TidySub (AnySub.modulename {r = r} a) = r ≡ []
TidySub (AnySub.funcnames {r = r} {vs = vs} w) = (r ≡ []) × Rising 0 vs
TidySub (AnySub.others h) = Unit {0}

-- and its subsections' ids rise, from `low` on
unfoldable pub TidySubs : {l r : List ℕ} {vs : List SubOf} → ℕ → InARow (Framed AnySub) l vs r → Type 0
TidySubs low InARow.done = Unit {0}
TidySubs low (InARow.then (framed {id = id} n c) w) = (low ≤ id) × TidySub c × TidySubs (suc id) w

abbrev pub TidyContent : {id : ℕ} {p : List ℕ} {c : Held} → AnyContent id p c → Type 0
TidyContent (AnyContent.custom a h) = Unit {0}
TidyContent (AnyContent.names a w) = TidySubs 0 w
TidyContent (AnyContent.imports w) = Unit {0}
TidyContent (AnyContent.exports w) = Unit {0}
TidyContent (AnyContent.unread x y z) = Unit {0}

abbrev pub TidySection : {l r : List ℕ} {v : SectionSaid} → Framed AnySection l v r → Type 0
TidySection (framed n (AnySection.section c)) = TidyContent c

unfoldable pub TidyNames : {b : List ℕ} {vs : List SectionSaid} → AnyModule b vs → Type 0
TidyNames (AnyModule.modul h w) = EveryRow (λ l r v x. TidySection x) w
