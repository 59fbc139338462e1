-- The examples, computed from the bytes of the files. Assumes nothing.
use Rattle.std.specs.Prelude.{None}
use mathlib.Core.Path.{◌≡◌, refl, sym, ◌∙◌, ap, subst}
use mathlib.Core.Logic.{◌↔◌}
use mathlib.Core.Bool.{Bool, true, false, ◌&&◌, true≢false}
use mathlib.Core.List.{List, [], ◌∷◌, ◌++◌}
use Prim.Native.Nat.{ℕ, zero, suc, ◌<◌}
use native.Mathlib.Omega.{arith}
use lib.Dec.{ltb}
use lib.ListN.{get_or}
use borrow.Author.Tests.{ltb-true}
use Rattle.refusal.specs.Said.{accepted, follow, onward, relocated}
use Rattle.refusal.proofs.Following.{one_value}
use Rattle.text.specs.Chars.{code_by, code_of, more_by, more, chars_from, chars}
use Rattle.text.specs.Find.{seek, begins, same, index_of}
use Rattle.text.specs.Lines.{cr_before, line_len, line_step}
use Rattle.text.specs.Order.{cmp_bytes}
use Rattle.text.specs.Piece.{trim}
use Rattle.text.specs.Ranges.{in_some}
use Rattle.text.specs.Scan.{scan}
use Rattle.text.specs.Trim.{start_len, end_len, trim_start, trim_end}
use Rattle.text.specs.Utf8.{up_to, seq_len, after, followers, follow_in, covers, utf8_table}
use Rattle.text.specs.Walk.{walk}
use Rattle.text.specs.White.{whites, is_white}
use Rattle.text.specs.Whole.{whole_text}
use Rattle.table.specs.Table.{capacity_of, cells, laid, cell_of, range_of}
use Rattle.table.specs.Entries.{entries_from}
use Rattle.table.specs.Listing.{fitted}
use Rattle.table.specs.Testing.{tested, count_from, first_from}
use Rattle.table.specs.Walking.{turn_of, walk_from}
use Rattle.sorting.specs.Sort.{◌∈◌}
use Rattle.leb.specs.Groups.{u_n, twos, grown, spent}
use Rattle.leb.specs.Reads as Reads
use Rattle.leb.specs.Reads.{told_at, narrowed, uleb_at, u32_at, part, byte_at, fixed_at, taken_at, counted_at, name_at}
use Rattle.kinds.specs.Kinds.{kind_of}
use Rattle.wasm.specs.Entry.{func_at, desc_at, import_at, export_at}
use Rattle.wasm.specs.Rows.{desc_cells, import_cells, export_cells, imports_of, exports_of}
use Rattle.wasm.specs.Module.{Parsed, no_tables, magic, header_at, contents_at, add_section, section_at, module_at, module_of, counts_of}
use Rattle.wasm.specs.Shapes.{Section, Import, Export, func}
use Rattle.conform.specs.Claims.{Bytes}
use Rattle.conform.specs.Sound.{limits}
use Rattle.import_rows.specs.Queries.{asked, kind_is, given_of, number_fits, marked, desc_fits, kind_fits, import_fits, imports_tested}
use Rattle.domains.specs.Classify as Classify
use Rattle.domains.specs.Classify.{classed_by, preview, heads, head_of, path_domain, import_domain}
use Rattle.policy.specs.declared.Policy.{Policy}
use Rattle.policy.specs.Piece.{lines_from, lines_of}
use Rattle.policy.specs.Directive.{default_w, allow, defaulted, policy_worded, policy_spoken, policy_core, policy_directive, fault}
use Rattle.policy.specs.Reader.{run, read_with, zero_policy, obey, read_policy}
use Rattle.verdicts.specs.Evaluate.{Outcome, effective_of, how_many, members, outcome, first_past, domains_test, evaluated}
use Rattle.requirements.specs.Requirements.{module_rows}
use Rattle.checking.specs.Checking.{weighed, held_to, read_then, checked_of}
use Rattle.differences.specs.View.{export_key_at, need_at}
use Rattle.differences.specs.Differences.{cmp_export, cmp_need, has_key, export_order, need_order, export_diff, need_diff, has_no}
use Rattle.differences.specs.Compared.{lists, viewed, verdict_on}
use Rattle.listed.specs.Comparisons.{build}
use Rattle.standin.specs.Builds.{Build, domains, builds_told, Clear}
use Rattle.standin.specs.Examples.{Breaks, approved, wider, elsewhere, Seen}
use Rattle.standin.proofs.Limits.{left, whole}
use Rattle.standin.proofs.Theorems.{replacement}
use Rattle.standin.proofs.Files.{files-told}

-- each number is a byte's
unfoldable pub small : List ℕ → Bool
small [] = true
small (x ∷ l) = ltb x 256 && small l

pub small_bytes : (l : List ℕ) → small l ≡ true → Bytes l
unfolding small
small_bytes [] h i = omega arith
small_bytes (x ∷ l) h i = by (ltb x 256) refl (small_bytes l) i h
  where
    by : (t : Bool) → ltb x 256 ≡ t → (small l ≡ true → Bytes l) → (i : ℕ) → (t && small l) ≡ true → get_or (x ∷ l) i 0 < 256
    by true e ih zero k = ltb-true x 256 e
    by true e ih (suc j) k = ih k j
    by false e ih j k = absurd (true≢false (sym k))

-- what is read: sections 2 and 7, `m`.`f` or `n`.`f`, and `a`, or `a` and `b`
abbrev needs : Section
needs = record { id = 2; from = 10; size = 7; name = part 0 0 }

abbrev needed : Import
needed = record { «module» = part 12 1; field = part 14 1; kind = 0; desc = func 0 }

abbrev exported_a : Export
exported_a = record { name = part 21 1; kind = 0; index = 0 }

abbrev exported_b : Export
exported_b = record { name = part 25 1; kind = 0; index = 0 }

abbrev read_of : ℕ → List Export → Parsed
read_of size exports =
    record {
      version = 1;
      tables = record {
        sections = needs ∷ record { id = 7; from = 19; size = size; name = part 0 0 } ∷ [];
        imports = needed ∷ [];
        exports = exports;
        names = record { label = None; symbols = [] };
      };
    }

abbrev read_approved : Parsed
read_approved = read_of 5 (exported_a ∷ [])

abbrev read_wider : Parsed
read_wider = read_of 9 (exported_a ∷ exported_b ∷ [])

reads : (module_at approved limits ≡ accepted read_approved) × (module_at wider limits ≡ accepted read_wider)
    × (module_at elsewhere limits ≡ accepted read_approved)
unfolding uleb_at u32_at told_at narrowed onward u_n twos grown spent byte_at fixed_at taken_at counted_at Reads.checked name_at module_at header_at
    relocated magic same walk_from walk turn_of section_at contents_at add_section capacity_of no_tables imports_of exports_of entries_from
    import_at export_at desc_at func_at up_to scan seq_len after followers follow_in covers utf8_table follow seek begins index_of
reads = (refl, refl, refl)

-- ---- the comparisons
abbrev fine : List ℕ → Parsed → List ℕ → Parsed → Bool
fine f m g n = (verdict_on (lists (viewed (build f m)) (viewed (build g n)))).compatible

judged : (fine approved read_approved wider read_wider ≡ true) × (fine wider read_wider approved read_approved ≡ false)
    × (fine approved read_approved elsewhere read_approved ≡ false) × (fine elsewhere read_approved approved read_approved ≡ false)
unfolding verdict_on export_diff need_diff export_key_at need_at cmp_export cmp_need export_order need_order has_key has_no laid cells import_cells
    desc_cells
    export_cells cell_of range_of kind_is kind_of import_domain path_domain head_of classed_by Classify.passes preview heads seek begins same index_of
    cmp_bytes
judged = (refl, refl, refl, refl)

bytes : Bytes approved × Bytes wider × Bytes elsewhere
unfolding small
bytes = (small_bytes approved refl, small_bytes wider refl, small_bytes elsewhere refl)

breaks : (f g : List ℕ) (m n : Parsed) → Bytes f → Bytes g → module_at f limits ≡ accepted m → module_at g limits ≡ accepted n
    → fine f m g n ≡ false → Breaks f g
breaks f g m n b c p q e = record { all = builds_told (build f m) (build g n); answers = files-told f g m n b c p q; says = e }

-- ---- the checks
abbrev first : Build
first = whole approved read_approved reads.0 bytes.0

abbrev second : Build
second = whole elsewhere read_approved reads.2 bytes.2

one-domain : (domains first ≡ 6 ∷ []) × (domains second ≡ 6 ∷ [])
unfolding whole left module_of counts_of need_at laid cells import_cells desc_cells cell_of range_of kind_is import_domain path_domain head_of
    classed_by
    Classify.passes preview heads seek begins same index_of
one-domain = (refl, refl)

alike : (text : List ℕ) → Clear approved text ↔ Clear elsewhere text
unfolding whole
alike text = (
  (replacement.needed second first).1 (λ d m. subst (◌∈◌ d) (one-domain.1 ∙ sym one-domain.0) m) text,
  (replacement.needed first second).1 (λ d m. subst (◌∈◌ d) (one-domain.0 ∙ sym one-domain.1) m) text,
)

-- the policies of `default allow`, and of no line
abbrev policy_by : Bool → Policy
policy_by t =
    record {
      named = false;
      start = 0;
      size = 0;
      permit = t;
      rules = zero_policy.rules;
    }

checked : (checked_of approved (default_w ++ allow) ≡ accepted (outcome (policy_by true) (6 ∷ [])))
    × (checked_of approved [] ≡ accepted (outcome (policy_by false) (6 ∷ [])))
unfolding checked_of read_then held_to weighed evaluated domains_test first_past module_rows asked imports_tested tested first_from import_fits
    kind_fits desc_fits marked number_fits count_from given_of
    fitted uleb_at u32_at told_at narrowed onward u_n twos grown spent byte_at fixed_at taken_at counted_at Reads.checked name_at module_at header_at
    relocated magic same walk_from walk turn_of section_at contents_at add_section capacity_of no_tables imports_of exports_of entries_from
    import_at export_at desc_at func_at up_to scan seq_len after followers follow_in covers utf8_table follow seek begins index_of
    laid cells import_cells desc_cells cell_of range_of kind_is import_domain path_domain head_of classed_by Classify.passes preview heads
    read_policy read_with whole_text run zero_policy obey lines_of lines_from line_len line_step cr_before policy_directive policy_core policy_spoken
    policy_worded defaulted fault trim trim_start trim_end start_len end_len chars chars_from more more_by code_of code_by is_white whites in_some
checked = (refl, refl)

counted : ((outcome (policy_by true) (6 ∷ [])).count ≡ 0) × ((outcome (policy_by false) (6 ∷ [])).count ≡ 1)
unfolding outcome how_many members effective_of zero_policy
counted = (refl, refl)

pub seen : Seen
seen =
    record {
      stands = record {
        all = builds_told (build approved read_approved) (build wider read_wider);
        answers = files-told approved wider read_approved read_wider bytes.0 bytes.1 reads.0 reads.1;
        says = judged.0;
      };
      loses = breaks wider approved read_wider read_approved bytes.1 bytes.0 reads.1 reads.0 judged.1;
      adds = breaks approved elsewhere read_approved read_approved bytes.0 bytes.2 reads.0 reads.2 judged.2;
      adds_too = breaks elsewhere approved read_approved read_approved bytes.2 bytes.0 reads.2 reads.0 judged.3;
      alike = alike;
      passes = record { outcome = outcome (policy_by true) (6 ∷ []); answers = checked.0; none = counted.0 };
      fails = λ c.
          let e : c.outcome ≡ outcome (policy_by false) (6 ∷ []) = one_value (sym c.answers ∙ checked.1) in
          let k : c.outcome.count ≡ 1 = ap (λ (o : Outcome). o.count) e ∙ counted.1 in
          omega (arith, k, c.none);
    }
