-- The checked examples that are marked P, as one list under a single claim: each holds of the definitions that the promises cite.
-- Assumes nothing.
use Rattle.std.specs.Prelude.{None, ℕ, ◌*◌, ◌≡◌, refl, Bool, true, false, List, [], ◌∷◌, ◌++◌, map, length, ℤ, pos, negsuc}
use Rattle.refusal.specs.Said.{Said, accepted, refused, follow, Got, got, onward, offset, relocated}
use Rattle.leb.specs.Groups.{u_n, s_n, twos, grown, spent}
use Rattle.leb.specs.Reads.{told_at, narrowed, uleb_at, u32_at, sleb_at, part, byte_at, fixed_at, taken_at, counted_at, checked, name_at}
use Rattle.text.specs.Find.{seek, begins, same, index_of, index_of2}
use Rattle.text.specs.Ranges.{in_some}
use Rattle.text.specs.White.{whites, is_white}
use Rattle.text.specs.Chars.{code_by, code_of, more_by, more, chars_from, chars}
use Rattle.text.specs.Trim.{start_len, end_len, trim_start, trim_end}
use Rattle.text.specs.Lines.{cr_before, line_len, line_step}
use Rattle.text.specs.Scan.{scan}
use Rattle.text.specs.Utf8.{up_to, seq_len, after, follow_in, covers, utf8_table}
use Rattle.text.specs.Utf8.{followers}
use Rattle.text.specs.Walk.{walk}
use Rattle.table.specs.Table.{capacity_of, cell_of, range_of, cells, laid}
use Rattle.table.specs.Testing.{tested, count_from, first_from}
use Rattle.table.specs.Listing.{fitted}
use Rattle.table.specs.Entries.{entries_from}
use Rattle.table.specs.Walking.{turn_of, walk_from}
use Rattle.table.specs.Shape.{width}
use Rattle.wasm.specs.Entry.{func_at, desc_at, import_at}
use Rattle.wasm.specs.Rows.{desc_cells, import_cells, imports_of}
use Rattle.wasm.specs.Module.{Sizes, Parsed, no_tables, magic, header_at, contents_at, add_section, section_at, module_at}
use Rattle.wasm.specs.Shapes.{func}
use Rattle.sorting.specs.Keys.{row_name}
use Rattle.import_rows.specs.Queries.{asked, imports_tested, given_of, number_fits, marked, desc_fits, kind_fits, import_fits, kind_is}
use Rattle.domains.specs.Classify.{passes, classed_by, preview, heads, preview1, unstable, head_of, path_domain, import_domain}
use Rattle.text.specs.Whole.{whole_text}
use Rattle.text.specs.Piece.{trim, shorn}
use Rattle.policy.specs.Piece.{lines_from, lines_of}
use Rattle.policy.specs.Directive.{default_w, allow, defaulted, policy_worded, policy_spoken, policy_core, policy_directive, fault}
use Rattle.policy.specs.Reader.{run, read_with, zero_policy, obey, read_policy}
use Rattle.verdicts.specs.Evaluate.{effective_of}
use Rattle.requirements.specs.Requirements.{row_domain, module_rows}
use Rattle.wit.specs.Line.{unbraced}
use Rattle.wit.specs.Line.{manifest_worded, manifest_core, manifest_spoken, manifest_directive}
use Rattle.wit.specs.Manifest.{State, sized, start, close_at, open_at, obey_at, line_at, lines_at, manifest_at}

-- a domain that a module asks for, by its number, and the module name of the import
pub data Asks : Type 0 where
  asks : ℕ → List ℕ → Asks

-- bytes, and what reading them from their start answers; a file, and what its imports ask for; a module name with a field, and a
-- manifest's path, and the domain; a policy's text, and whether it allows a domain; a manifest, and what is read of it
pub data Example : Type 0 where
  unsigned : List ℕ → Said (Got ℕ) → Example
  unsigned32 : List ℕ → Said (Got ℕ) → Example
  signed : List ℕ → Said (Got ℤ) → Example
  file : List ℕ → Said Parsed → Example
  asking : List ℕ → Said (List Asks) → Example
  imported : List ℕ → List ℕ → ℕ → Example
  path : List ℕ → ℕ → Example
  allowing : List ℕ → ℕ → Said Bool → Example
  manifest : List ℕ → Said State → Example

-- room for two rows in each table
abbrev pub two : Sizes
two = record { sections = 2 * width 1; imports = 2 * width 2; exports = 2 * width 3; names = 2 * width 4 }

-- the file's import rows as its read leaves them in table 2, and what those ask for
abbrev pub import_table : Parsed → List ℕ
import_table m = laid two.imports (cells import_cells m.tables.imports)

abbrev pub asked_by : List ℕ → Said (List Asks)
asked_by b =
    follow (module_at b two) (λ m.
    follow (module_rows b (import_table m) (length m.tables.imports) 2) (λ rows.
    accepted (map (λ i. asks (row_domain b (import_table m) i) (row_name b (import_table m) 5 0 1 i)) rows)))

abbrev pub ExampleHolds : Example → Type 0
ExampleHolds (unsigned s r) = uleb_at s 0 ≡ r
ExampleHolds (unsigned32 s r) = u32_at s 0 ≡ r
ExampleHolds (signed s r) = sleb_at s 0 ≡ r
ExampleHolds (file b r) = module_at b two ≡ r
ExampleHolds (asking b r) = asked_by b ≡ r
ExampleHolds (imported m f d) = import_domain m f ≡ d
ExampleHolds (path s d) = path_domain s ≡ d
ExampleHolds (allowing s d r) = follow (read_policy s) (λ p. accepted (effective_of p d).allow) ≡ r
ExampleHolds (manifest s r) = manifest_at s (sized (2 * width 5) (2 * width 6)) ≡ r

abbrev pub AllHold : List Example → Type 0
AllHold [] = Unit {0}
AllHold (e ∷ l) = ExampleHolds e × AllHold l

-- nine times b, then l
abbrev pub nine : ℕ → List ℕ → List ℕ
nine b l = b ∷ b ∷ b ∷ b ∷ b ∷ b ∷ b ∷ b ∷ b ∷ l

abbrev pub header : List ℕ
header = 0x00 ∷ 0x61 ∷ 0x73 ∷ 0x6d ∷ 0x01 ∷ 0x00 ∷ 0x00 ∷ 0x00 ∷ []

abbrev pub one_import : List ℕ
one_import = header ++ (0x02 ∷ 0x07 ∷ 0x01 ∷ 0x01 ∷ 0x6d ∷ 0x01 ∷ 0x66 ∷ 0x00 ∷ 0x00 ∷ [])

-- a section 2, and the function `f` of `m`
abbrev pub one_import_read : Parsed
one_import_read =
    record {
      version = 1;
      tables = record {
        sections = record { id = 2; from = 10; size = 7; name = part 0 0 } ∷ [];
        imports = record { «module» = part 12 1; field = part 14 1; kind = 0; desc = func 0 } ∷ [];
        exports = [];
        names = record { label = None; symbols = [] };
      };
    }

-- `fd_write`, `random_path`, and `default allow`
abbrev pub fd_write : List ℕ
fd_write = 102 ∷ 100 ∷ 95 ∷ 119 ∷ 114 ∷ 105 ∷ 116 ∷ 101 ∷ []

abbrev pub random_path : List ℕ
random_path = 114 ∷ 97 ∷ 110 ∷ 100 ∷ 111 ∷ 109 ∷ []

abbrev pub default_allow : List ℕ
default_allow = default_w ++ allow

-- `world x {}`, and its world, named `x {}` and ended by the end of the text
abbrev pub one_world : List ℕ
one_world = 119 ∷ 111 ∷ 114 ∷ 108 ∷ 100 ∷ 32 ∷ 120 ∷ 32 ∷ 123 ∷ 125 ∷ []

abbrev pub one_world_read : State
one_world_read =
    record {
      line = 1;
      pack = None;
      world = None;
      worlds = record { from = 6; len = 4 } ∷ [];
      references = [];
    }

-- domains 0 fs, 4 random, 6 unknown
abbrev pub examples : List Example
examples =
    unsigned (0xe5 ∷ 0x8e ∷ 0x26 ∷ []) (accepted (got 624485 3))
    ∷ unsigned (0x80 ∷ 0x00 ∷ []) (accepted (got 0 2))
    ∷ unsigned (nine 0xff (0x01 ∷ [])) (accepted (got 18446744073709551615 10))
    ∷ unsigned (nine 0xff (0x02 ∷ [])) (refused 18 (offset 0))
    ∷ unsigned32 (0x80 ∷ 0x80 ∷ 0x80 ∷ 0x80 ∷ 0x10 ∷ []) (refused 19 (offset 5))
    ∷ signed (0xc0 ∷ 0x00 ∷ []) (accepted (got (pos 64) 2))
    ∷ signed (0x40 ∷ []) (accepted (got (negsuc 63) 1))
    ∷ signed (nine 0x80 (0x01 ∷ [])) (accepted (got (negsuc 9223372036854775807) 10))
    ∷ file header (accepted (record { version = 1; tables = no_tables }))
    ∷ file (0x00 ∷ 0x61 ∷ 0x73 ∷ 0x6d ∷ 0x00 ∷ 0x00 ∷ 0x00 ∷ 0x00 ∷ []) (refused 2 (offset 4))
    ∷ file one_import (accepted one_import_read)
    ∷ asking one_import (accepted (asks 6 (0x6d ∷ []) ∷ []))
    ∷ imported (preview1 ++ 48 ∷ []) fd_write 0
    ∷ imported (unstable ++ 50 ∷ []) fd_write 6
    ∷ path random_path 4
    ∷ imported random_path fd_write 6
    ∷ allowing default_allow 6 (accepted true)
    ∷ manifest one_world (accepted one_world_read)
    ∷ []

pub examples-hold : AllHold examples
unfolding uleb_at u32_at sleb_at told_at narrowed onward u_n s_n twos grown spent byte_at fixed_at taken_at counted_at checked name_at
    module_at header_at
    relocated magic same walk_from walk turn_of section_at contents_at add_section capacity_of no_tables imports_of entries_from
    import_at desc_at
    func_at up_to scan seq_len after followers follow_in covers utf8_table
    follow laid cells import_cells desc_cells module_rows asked imports_tested tested first_from import_fits kind_fits desc_fits marked
    number_fits count_from given_of kind_is cell_of range_of fitted
    import_domain path_domain head_of classed_by passes preview heads seek begins index_of
    read_policy read_with whole_text run zero_policy obey lines_of lines_from line_len line_step cr_before policy_directive policy_core
    policy_spoken policy_worded
    defaulted fault trim trim_start trim_end start_len end_len chars chars_from more more_by code_of code_by is_white whites in_some
    effective_of
    index_of2 shorn unbraced manifest_worded manifest_core manifest_spoken manifest_directive start close_at open_at obey_at line_at
    lines_at
    manifest_at
examples-hold = (
  refl,
  (
    refl,
    (
      refl,
      (
        refl,
        (
          refl,
          (
            refl,
            (
              refl,
              (
                refl,
                (
                  refl,
                  (refl, (refl, (refl, (refl, (refl, (refl, (refl, (refl, (refl, tt))))))))),
                ),
              ),
            ),
          ),
        ),
      ),
    ),
  ),
)
