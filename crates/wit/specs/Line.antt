-- docs/RULES.md, "Texts", the manifest: what a line says. Assumes nothing.
use Rattle.std.specs.Prelude.{Bool, true, false, List, [], ◌∷◌, ℕ, ◌+◌, eqb, ltb, length, Option, Some, None}
use Rattle.std.specs.Option.{unwrap_or}
use Rattle.refusal.specs.Pick.{pick, both}
use Rattle.refusal.specs.declared.Part.{Part}
use Rattle.text.specs.Find.{seek, begins, same, index_of2}
use Rattle.text.specs.Piece.{Piece, first, beyond, trim, shorn}
use Rattle.wit.specs.declared.line.Directive.{Directive}
use Rattle.wit.specs.declared.line.Directive.TheVariants.{Blank, Package, World, Close, Refer, Brace, Other}

-- the directive words, each with its one space; a lone `{` and a lone `}`
abbrev pub package_w : List ℕ
package_w = 112 ∷ 97 ∷ 99 ∷ 107 ∷ 97 ∷ 103 ∷ 101 ∷ 32 ∷ []

abbrev pub world_w : List ℕ
world_w = 119 ∷ 111 ∷ 114 ∷ 108 ∷ 100 ∷ 32 ∷ []

abbrev pub import_w : List ℕ
import_w = 105 ∷ 109 ∷ 112 ∷ 111 ∷ 114 ∷ 116 ∷ 32 ∷ []

abbrev pub export_w : List ℕ
export_w = 101 ∷ 120 ∷ 112 ∷ 111 ∷ 114 ∷ 116 ∷ 32 ∷ []

abbrev pub lone : ℕ → List ℕ
lone b = b ∷ []

-- ---- ranges of the text
abbrev pub part_of : Piece → Part
part_of p = record { from = p.at; len = length p.bytes }

-- a range that may be absent, as cells have it: zeros where it is
abbrev pub no_range : Part
no_range = record { from = 0; len = 0 }

abbrev pub range_in : Option Part → Part
range_in m = unwrap_or m no_range

-- ---- names and references lose trailing `{`, then blanks
unfoldable pub unbraced : Piece → Piece
unbraced p = trim (first (shorn 123 p.bytes) p)

-- ASCII whitespace: 09, 0a, 0c, 0d, 20, and not 0b
unfoldable pub is_space : ℕ → Bool
is_space b = pick (eqb b 0x09) true (pick (eqb b 0x0a) true (pick (eqb b 0x0c) true (pick (eqb b 0x0d) true (eqb b 0x20))))

-- ASCII whitespace at the front, or nothing at all
unfoldable pub ends : List ℕ → Bool
ends [] = true
ends (y ∷ s) = is_space y

-- a `:` at the front, followed by ASCII whitespace or ending the text
unfoldable pub splits : List ℕ → Bool
splits [] = false
splits (x ∷ s) = both (eqb x 58) (ends s)

-- the first such `:`
unfoldable pub boundary : List ℕ → ℕ
boundary s = seek splits s

-- a whole reference splits there into path and signature, both trimmed; else it is all path
unfoldable pub reference_of : Bool → Piece → Directive
reference_of export r =
    pick (ltb (boundary r.bytes) (length r.bytes))
    (Refer export (part_of (trim (first (boundary r.bytes) r))) (Some (part_of (trim (beyond (boundary r.bytes + 1) r)))))
    (Refer export (part_of r) None)

-- the first test that holds decides
unfoldable pub manifest_worded : Piece → Directive
manifest_worded c =
    pick (begins package_w c.bytes) (Package (part_of (trim (beyond 8 c))))
    (pick (begins world_w c.bytes) (World (part_of (unbraced (beyond 6 c))))
    (pick (same (lone 125) c.bytes) Close
    (pick (begins import_w c.bytes) (reference_of false (unbraced (trim (beyond 7 c))))
    (pick (begins export_w c.bytes) (reference_of true (unbraced (trim (beyond 7 c))))
    (pick (same (lone 123) c.bytes) Brace
    Other)))))

-- a line without its comment, from the first `//` on, trimmed
unfoldable pub manifest_core : Piece → Piece
manifest_core p = trim (first (index_of2 47 47 p.bytes) p)

unfoldable pub manifest_spoken : Piece → Directive
manifest_spoken c = pick (eqb (length c.bytes) 0) Blank (manifest_worded c)

unfoldable pub manifest_directive : Piece → Directive
manifest_directive p = manifest_spoken (manifest_core p)
