-- docs/RULES.md, "Strict reading": the eight rules, the lowest one that a file breaks, and what a strict read answers. Assumes nothing.
use Rattle.std.specs.Prelude.{ℕ, ◌≡◌, Bool, true, false, Option, Some, None, List, [], ◌∷◌, map, leb, ltb, eqb}
use Rattle.refusal.specs.Pick.{pick, both}
use Rattle.refusal.specs.Said.{Said, accepted, refused, follow, got, onward, spot}
use Rattle.text.specs.Find.{same}
use Rattle.table.specs.Table.{cell_of, range_of, rows_of}
use Rattle.table.specs.Shape.{width}
use Rattle.sorting.specs.Sort.{up_from}
use Rattle.sorting.specs.Keys.{row_name}
use Rattle.wasm.specs.Shapes.{Section, Export}
use Rattle.wasm.specs.Module.{Parsed, Sizes, module_at}
use Rattle.strict.specs.declared.again.Marks.{Marks}
use Rattle.strict.specs.declared.rules.Rule.{Rule}
use Rattle.strict.specs.declared.rules.Rule.TheVariants.{Version, ShortNumbers, KnownSections, SectionOrder, UsedSections}
use Rattle.strict.specs.declared.rules.Rule.TheVariants.{DifferentNames, KnownExports, PlainFlags}
use Rattle.strict.specs.Again.{marks_at}

-- ---- what the rules are about
-- the ids of the sections, the kinds of the exports, and their names: the bytes of a range, none where it leaves the file
unfoldable pub ids_of : Parsed → List ℕ
ids_of m = map (λ (r : Section). r.id) m.tables.sections

unfoldable pub kinds_of : Parsed → List ℕ
kinds_of m = map (λ (r : Export). r.kind) m.tables.exports

unfoldable pub export_names : List ℕ → Parsed → List (List ℕ)
export_names b m = map (λ (r : Export). range_of b r.name.from r.name.len) m.tables.exports

-- rules 3 and 7: none is above n
unfoldable pub none_above : ℕ → List ℕ → Bool
none_above n [] = true
none_above n (x ∷ l) = both (leb x n) (none_above n l)

-- rule 4: sections 1 to 9, 12, 10, 11 in this order; custom ones are 0, and ids above 12 come last
unfoldable pub section_place : ℕ → ℕ
section_place id = pick (ltb id 10) id (pick (eqb id 10) 11 (pick (eqb id 11) 12 (pick (eqb id 12) 10 13)))

-- each comes after the last one; custom ones are passed over
unfoldable pub ordered_from : ℕ → List ℕ → Bool
ordered_from last [] = true
ordered_from last (id ∷ l) =
    pick (eqb (section_place id) 0) (ordered_from last l) (both (ltb last (section_place id)) (ordered_from (section_place id) l))

unfoldable pub ordered : List ℕ → Bool
ordered l = ordered_from 0 l

-- rule 6: no name is in the rest of the list
unfoldable pub has : List ℕ → List (List ℕ) → Bool
has x [] = false
has x (y ∷ l) = pick (same x y) true (has x l)

unfoldable pub different : List (List ℕ) → Bool
different [] = true
different (x ∷ l) = pick (has x l) false (different l)

-- ---- the lowest rule that is broken; 0 where none is
unfoldable pub lowest_of : Bool → Bool → Bool → Bool → Bool → Bool → Bool → Bool → ℕ
lowest_of r1 r2 r3 r4 r5 r6 r7 r8 =
    pick r1 (pick r2 (pick r3 (pick r4 (pick r5 (pick r6 (pick r7 (pick r8 0 8) 7) 6) 5) 4) 3) 2) 1

unfoldable pub broken : List ℕ → Parsed → Marks → ℕ
broken b m k =
    lowest_of (eqb m.version 1) k.short (none_above 12 (ids_of m)) (ordered (ids_of m)) k.used (different (export_names b m))
    (none_above 3 (kinds_of m)) k.plain

-- what was read, unless a rule is broken: 20, at the rule
unfoldable pub held : List ℕ → Parsed → Marks → Said Parsed
held b m k = pick (eqb (broken b m k) 0) (accepted m) (refused 20 (spot (broken b m k)))

-- a strict read: the plain one first; where it accepts, the second walk and the rules
unfoldable pub strict_at : List ℕ → Sizes → Said Parsed
strict_at b z = follow (module_at b z) (λ m. onward (marks_at b) (λ k d. held b m k))

-- the verdict alone
unfoldable pub tested_at : List ℕ → Sizes → Said (Unit {0})
tested_at b z = follow (strict_at b z) (λ m. accepted tt)

-- ---- for the code: a column of a table, and the names that rows of table 3 hold
unfoldable pub column_of : List ℕ → ℕ → ℕ → ℕ → List ℕ
column_of table w column n = rows_of (λ i. cell_of table w i column) n

unfoldable pub names_of : List ℕ → List ℕ → ℕ → List (List ℕ)
names_of file table n = map (row_name file table (width 3) 0 1) (up_from 0 n)

-- the numbers of the rules; 0 is none
abbrev pub number_of_rule : Rule → ℕ
number_of_rule Version = 1
number_of_rule ShortNumbers = 2
number_of_rule KnownSections = 3
number_of_rule SectionOrder = 4
number_of_rule UsedSections = 5
number_of_rule DifferentNames = 6
number_of_rule KnownExports = 7
number_of_rule PlainFlags = 8

abbrev pub rule_told : Option Rule → ℕ
rule_told (Some r) = number_of_rule r
rule_told None = 0

-- the lowest rule that is broken, of n rows that table 1 holds, k that table 3 holds, and the marks
abbrev pub broken_in : List ℕ → ℕ → List ℕ → ℕ → List ℕ → ℕ → Marks → ℕ
broken_in b version sections n exports k m =
    lowest_of (eqb version 1) m.short (none_above 12 (column_of sections (width 1) 0 n)) (ordered (column_of sections (width 1) 0 n))
    m.used (different (names_of b exports k)) (none_above 3 (column_of exports (width 3) 2 k)) m.plain

-- a number is that rule, with the marks of the second walk
abbrev pub Judged : List ℕ → ℕ → List ℕ → ℕ → List ℕ → ℕ → ℕ → Type 0
Judged b version sections n exports k rule =
    (m : Marks) (d : ℕ) → marks_at b ≡ accepted (got m d) → rule ≡ broken_in b version sections n exports k m

-- tables of so many cells
abbrev pub sized : ℕ → ℕ → ℕ → ℕ → Sizes
sized s i e n = record { sections = s; imports = i; exports = e; names = n }
