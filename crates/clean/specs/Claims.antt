-- docs/PROMISES.md, "strict, clean": what is claimed of the rules, against the reader and against the specification's grammar. Assumes
-- nothing.
use Rattle.std.specs.Prelude.{ℕ, ◌≤◌, ◌<◌, ◌≡◌, ◌⊎◌, ◌↔◌, List, map, length}
use Rattle.refusal.specs.Sizes.{file_limit}
use Rattle.refusal.specs.Said.{accepted, refused, spot}
use Rattle.refusal.specs.Each.{Each}
use Rattle.wasm.specs.Module.{Tables, Sizes, Parsed, module_at}
use Rattle.conform.specs.Grammar.{SectionOf, ModuleG}
use Rattle.conform.specs.Port.{SectionSaid, AnyModule}
use Rattle.conform.specs.Claims.{Bytes, section_said, Room, Rows, Derives}
use Rattle.strict.specs.Rules.{strict_at}
use Rattle.clean.specs.Rules.{Rule, DifferentNames, TypedImports, TidyNames}

-- the rules but 6, which is the specification's validation and not its grammar; and what no rule asks
pub record CleanModule {b : List ℕ} {vs : List SectionSaid} (d : AnyModule b vs) : Type 0 where
  pub version : Rule d 1
  pub short : Rule d 2
  pub ids : Rule d 3
  pub order : Rule d 4
  pub used : Rule d 5
  pub kinds : Rule d 7
  pub plain : Rule d 8
  pub types : Each TypedImports vs
  pub names : TidyNames d

-- the specification's grammar derives b, with these rows
pub record Specified (b : List ℕ) (vs : List SectionSaid) : Type 0 where
  pub sections : List SectionOf
  pub derived : ModuleG b sections
  pub says : map section_said sections ≡ vs

-- a clean derivation by the port's grammar is one by the specification's, with the same rows
abbrev pub StrictOnly : Type 0
StrictOnly = (b : List ℕ) (vs : List SectionSaid) (d : AnyModule b vs) → CleanModule d → Specified b vs

-- and the other way round: so within what is read the two languages are one
abbrev pub SpecifiedClean : Type 0
SpecifiedClean = (b : List ℕ) (vs : List SectionSaid) → Bytes b → Specified b vs → (d : AnyModule b vs) × CleanModule d

-- the port's grammar derives a file as one list of sections
abbrev pub OneReading : Type 0
OneReading = (b : List ℕ) (vs ws : List SectionSaid) → AnyModule b vs → AnyModule b ws → vs ≡ ws

-- whatever derivation is taken: a file that the port's grammar derives is one of the specification's exactly where it is clean. So what is
-- asked in `CleanModule` is all that the two grammars differ in
abbrev pub ExactlyClean : Type 0
ExactlyClean =
    (b : List ℕ) (vs : List SectionSaid) (d : AnyModule b vs) → Bytes b → length b ≤ file_limit → Specified b vs ↔ CleanModule d

-- in what a derivation differs from the specification's
pub data Differs {b : List ℕ} {vs : List SectionSaid} (d : AnyModule b vs) : Type 0 where
  version : (Rule d 1 → ⊥) → Differs d
  numbers : (Rule d 2 → ⊥) → Differs d
  ids : (Rule d 3 → ⊥) → Differs d
  order : (Rule d 4 → ⊥) → Differs d
  unused : (Rule d 5 → ⊥) → Differs d
  kinds : (Rule d 7 → ⊥) → Differs d
  flags : (Rule d 8 → ⊥) → Differs d
  types : (Each TypedImports vs → ⊥) → Differs d
  names : (TidyNames d → ⊥) → Differs d

-- the list of differences is complete, and each of them is one
pub record Differences {b : List ℕ} {vs : List SectionSaid} (d : AnyModule b vs) : Type 0 where
  pub complete : Specified b vs ⊎ Differs d
  pub real : Differs d → Specified b vs → ⊥

abbrev pub AllDifferences : Type 0
AllDifferences = (b : List ℕ) (vs : List SectionSaid) (d : AnyModule b vs) → Bytes b → length b ≤ file_limit → Differences d

-- ---- the strict reader
-- all eight rules hold
abbrev pub Strict : {b : List ℕ} {vs : List SectionSaid} → AnyModule b vs → Type 0
Strict d = (i : ℕ) → Rule d i

-- rule r is broken, and none below it
pub record Lowest {b : List ℕ} {vs : List SectionSaid} (d : AnyModule b vs) (r : ℕ) : Type 0 where
  pub is-rule : (1 ≤ r) × (r ≤ 8)
  pub below : (i : ℕ) → i < r → Rule d i
  pub broken : Rule d r → ⊥

-- a file that is read plainly is read strictly, as the same module, exactly where all rules hold; and 20 at r is said exactly where r is
-- the lowest that is broken
pub record RulesDecide (b : List ℕ) (z : Sizes) (m : Parsed) : Type 0 where
  pub accepts : (e : Derives b z m) → (strict_at b z ≡ accepted m) ↔ Strict e.derived
  pub refuses : (e : Derives b z m) (r : ℕ) → (strict_at b z ≡ refused 20 (spot r)) ↔ Lowest e.derived r

abbrev pub LowestTold : Type 0
LowestTold = (b : List ℕ) (z : Sizes) (m : Parsed) → Bytes b → module_at b z ≡ accepted m → RulesDecide b z m

-- the file b is read strictly as exactly these sections
pub record StrictAs (b : List ℕ) (z : Sizes) (vs : List SectionSaid) : Type 0 where
  pub tables : Tables
  pub is : strict_at b z ≡ accepted (record { version = 1; tables = tables })
  pub rows : Rows b tables vs

-- where and only where the port's grammar derives b, b is short enough, the tables have room and all eight rules hold
pub record StrictExactly (b : List ℕ) (z : Sizes) : Type 0 where
  pub only : (m : Parsed) → strict_at b z ≡ accepted m → (e : Derives b z m) × Strict e.derived
  pub takes : (vs : List SectionSaid) (d : AnyModule b vs) → length b ≤ file_limit → Room z vs → Strict d → StrictAs b z vs

-- whatever the specification's grammar derives, short enough, with room and with different export names, is read strictly as exactly that
abbrev pub StrictTakes : Type 0
StrictTakes =
    (b : List ℕ) (z : Sizes) (us : List SectionOf) → Bytes b → length b ≤ file_limit → Room z (map section_said us)
    → Each DifferentNames (map section_said us) → ModuleG b us → StrictAs b z (map section_said us)

-- the specification's grammar derives b exactly where A, and then as these sections
pub record Derivable (b : List ℕ) (vs : List SectionSaid) (A : Type 0) : Type 0 where
  pub exactly : ((us : List SectionOf) × ModuleG b us) ↔ A
  pub says : (us : List SectionOf) → ModuleG b us → map section_said us ≡ vs

-- a file that is read plainly is one of the specification's grammar exactly where it is clean, with the same rows
abbrev pub PlainSpecified : Type 0
PlainSpecified =
    (b : List ℕ) (z : Sizes) (m : Parsed) → Bytes b → module_at b z ≡ accepted m → (e : Derives b z m)
    → Derivable b e.sections (CleanModule e.derived)

-- and one that is read strictly exactly where its type bytes are the specification's and its name sections the appendix's
abbrev pub StrictSpecified : Type 0
StrictSpecified =
    (b : List ℕ) (z : Sizes) (m : Parsed) → Bytes b → strict_at b z ≡ accepted m → (e : Derives b z m)
    → Derivable b e.sections (Each TypedImports e.sections × TidyNames e.derived)
