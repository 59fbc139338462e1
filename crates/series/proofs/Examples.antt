-- The examples, computed from the bytes of the files and texts. Assumes nothing.
use Rattle.std.specs.Prelude.{None}
use mathlib.Core.Path.{◌≡◌, refl, sym, ◌∙◌, ap}
use mathlib.Core.Bool.{true, false}
use mathlib.Core.List.{List, [], ◌∷◌}
use Prim.Native.Nat.{ℕ}
use native.Mathlib.Omega.{arith}
use lib.ListN.{set, replicate}
use Rattle.refusal.specs.Said.{accepted, follow, onward, relocated}
use Rattle.refusal.proofs.Following.{one_value}
use Rattle.text.specs.Chars.{code_by, code_of, more_by, more, chars_from, chars}
use Rattle.text.specs.Find.{seek, begins, same, index_of}
use Rattle.text.specs.Lines.{cr_before, line_len, line_step}
use Rattle.text.specs.Order.{cmp_bytes}
use Rattle.text.specs.Piece.{trim, shorn}
use Rattle.text.specs.Ranges.{in_some}
use Rattle.text.specs.Scan.{scan}
use Rattle.text.specs.Trim.{start_len, end_len, trim_start, trim_end}
use Rattle.text.specs.Utf8.{up_to, seq_len, after, followers, follow_in, covers, utf8_table}
use Rattle.text.specs.Walk.{walk}
use Rattle.text.specs.White.{whites, is_white}
use Rattle.text.specs.Whole.{whole_text}
use Rattle.table.specs.Table.{capacity_of, cells, laid, cell_of, range_of}
use Rattle.table.specs.Entries.{entries_from}
use Rattle.table.specs.Listing.{fitted}
use Rattle.table.specs.Testing.{tested, count_from, first_from}
use Rattle.table.specs.Walking.{turn_of, walk_from}
use Rattle.leb.specs.Groups.{u_n, twos, grown, spent}
use Rattle.leb.specs.Reads as Reads
use Rattle.leb.specs.Reads.{told_at, narrowed, uleb_at, u32_at, part, byte_at, fixed_at, taken_at, counted_at, name_at}
use Rattle.kinds.specs.Kinds.{kind_of}
use Rattle.wasm.specs.Entry.{func_at, desc_at, import_at, export_at}
use Rattle.wasm.specs.Rows.{desc_cells, import_cells, export_cells, imports_of, exports_of}
use Rattle.wasm.specs.Module.{Parsed, no_tables, magic, header_at, contents_at, add_section, section_at, module_at}
use Rattle.wasm.specs.Shapes.{Export, func}
use Rattle.conform.specs.Claims.{Bytes}
use Rattle.conform.specs.Sound.{limits}
use Rattle.import_rows.specs.Queries.{asked, kind_is, given_of, number_fits, marked, desc_fits, kind_fits, import_fits, imports_tested}
use Rattle.domains.specs.Domain.{words, word_in, domain_of, slugs, slug}
use Rattle.domains.specs.Classify as Classify
use Rattle.domains.specs.Classify.{classed_by, preview, heads, head_of, path_domain, import_domain}
use Rattle.policy.specs.declared.Policy.{Policy}
use Rattle.policy.specs.declared.Stance.TheVariants as Stance
use Rattle.policy.specs.Piece.{quotes, bare, lines_from, lines_of}
use Rattle.policy.specs.Directive.{defaulted, plain_by, listed_by, rule_directive, policy_worded, policy_spoken, policy_core}
use Rattle.policy.specs.Directive.{policy_directive, fault}
use Rattle.policy.specs.Reader.{run, read_with, slot, stance_of, zero_policy, obey, read_policy}
use Rattle.verdicts.specs.Evaluate.{Outcome, effective_of, how_many, members, outcome, first_past, domains_test, evaluated}
use Rattle.requirements.specs.Requirements.{module_rows}
use Rattle.checking.specs.Checking.{weighed, held_to, read_then, checked_of}
use Rattle.differences.specs.declared.Change.TheVariants.{Removed, Added}
use Rattle.differences.specs.View.{ExportKey, Need, export_key_at, need_at}
use Rattle.differences.specs.Differences.{Entry, entry, cmp_export, cmp_need, has_key, export_order, need_order, export_diff, need_diff}
use Rattle.differences.specs.Differences.{has_no}
use Rattle.differences.specs.Compared.{lists, viewed, verdict_on}
use Rattle.listed.specs.Comparisons.{build}
use Rattle.standin.specs.Passing.{witness}
use Rattle.standin.specs.Builds.{builds_told, Clear}
use Rattle.standin.specs.Examples.{approved, wider, elsewhere}
use Rattle.standin.proofs.Passing.{all_but}
use Rattle.standin.proofs.Examples.{small, small_bytes}
use Rattle.standin.proofs.Files.{files-told}
use Rattle.series.specs.Steps.{Answered}
use Rattle.series.specs.Policies.{sole}
use Rattle.series.specs.Examples.{Gives, turned, export_b, unknown_from, clock_alone, all_but_network, SeriesSeen}

-- ---- what is read: sections 2 and 7, one function import, and these exports
abbrev read_of : ℕ → List Export → Parsed
read_of size exports =
    record {
      version = 1;
      tables = record {
        sections =
            record { id = 2; from = 10; size = 7; name = part 0 0 } ∷ record { id = 7; from = 19; size = size; name = part 0 0 } ∷ [];
        imports = record { «module» = part 12 1; field = part 14 1; kind = 0; desc = func 0 } ∷ [];
        exports = exports;
        names = record { label = None; symbols = [] };
      };
    }

abbrev exported : ℕ → Export
exported at = record { name = part at 1; kind = 0; index = 0 }

abbrev one : Parsed
one = read_of 5 (exported 21 ∷ [])

abbrev two : Parsed
two = read_of 9 (exported 21 ∷ exported 25 ∷ [])

reads : (module_at wider limits ≡ accepted two) × (module_at elsewhere limits ≡ accepted one) × (module_at turned limits ≡ accepted two)
    × (module_at approved limits ≡ accepted one)
unfolding uleb_at u32_at told_at narrowed onward u_n twos grown spent byte_at fixed_at taken_at counted_at Reads.checked name_at module_at header_at
    magic same walk_from walk turn_of relocated section_at contents_at add_section capacity_of no_tables imports_of exports_of entries_from import_at export_at
    desc_at func_at up_to scan seq_len after followers follow_in covers utf8_table follow seek begins index_of
reads = (refl, refl, refl, refl)

bytes : Bytes wider × Bytes elsewhere × Bytes turned × Bytes approved
unfolding small
bytes = (small_bytes wider refl, small_bytes elsewhere refl, small_bytes turned refl, small_bytes approved refl)

-- ---- the comparisons
module _ (f g : List ℕ) (m n : Parsed) (es : List (Entry ExportKey)) (ns : List (Entry Need)) where
  abbrev Differs : Type 0
  Differs =
      (export_diff (viewed (build f m)) (viewed (build g n)) ≡ es) × (need_diff (viewed (build f m)) (viewed (build g n)) ≡ ns)

  gives : Bytes f → Bytes g → module_at f limits ≡ accepted m → module_at g limits ≡ accepted n → Differs → Gives f g es ns
  gives b c p q e =
      record {
        all = builds_told (build f m) (build g n);
        answers = files-told f g m n b c p q;
        exports-are = e.0;
        needs-are = e.1;
      }

abbrev forth : List (Entry Need)
forth = entry Removed (unknown_from 0x6d) ∷ entry Added (unknown_from 0x6e) ∷ []

abbrev back : List (Entry Need)
back = entry Added (unknown_from 0x6d) ∷ entry Removed (unknown_from 0x6e) ∷ []

differ : Differs wider approved two one (entry Removed (export_b 1) ∷ []) []
    × Differs wider elsewhere two one (entry Removed (export_b 1) ∷ []) forth
    × Differs elsewhere turned one two (entry Added (export_b 0) ∷ []) back
    × Differs turned approved two one (entry Removed (export_b 0) ∷ []) []
    × Differs wider turned two two [] []
unfolding export_diff need_diff export_key_at need_at cmp_export cmp_need export_order need_order has_key laid cells import_cells desc_cells
    export_cells cell_of
    range_of kind_is kind_of import_domain path_domain head_of classed_by Classify.passes preview heads seek begins same index_of cmp_bytes
differ = ((refl, refl), (refl, refl), (refl, refl), (refl, refl), (refl, refl))

fine : ((verdict_on (lists (viewed (build wider two)) (viewed (build turned two)))).compatible ≡ true)
    × ((verdict_on (lists (viewed (build turned two)) (viewed (build wider two)))).compatible ≡ true)
unfolding verdict_on export_diff need_diff export_key_at need_at cmp_export cmp_need export_order need_order has_key has_no laid cells import_cells
    desc_cells
    export_cells cell_of range_of kind_is kind_of import_domain path_domain head_of classed_by Classify.passes preview heads seek begins same index_of
    cmp_bytes
fine = (refl, refl)

answered : (f g : List ℕ) (es : List (Entry ExportKey)) (ns : List (Entry Need)) → Gives f g es ns → Answered f g
answered f g es ns v = record { all = v.all; answers = v.answers }

-- ---- the checks
-- what `allow clock` is read as
abbrev clock_policy : Policy
clock_policy =
    record { named = false; start = 0; size = 0; permit = false; rules = set (replicate 7 (slot Stance.None 0 0)) 2 (slot Stance.Allow 0 0) }

checked : (checked_of (sole 2) clock_alone ≡ accepted (outcome clock_policy (2 ∷ [])))
    × (checked_of (sole 2) all_but_network ≡ accepted (outcome (all_but 3) (2 ∷ [])))
    × (checked_of (sole 0) all_but_network ≡ accepted (outcome (all_but 3) (0 ∷ [])))
    × (checked_of (sole 0) clock_alone ≡ accepted (outcome clock_policy (0 ∷ [])))
unfolding sole witness slug slugs words word_in domain_of checked_of read_then held_to weighed evaluated domains_test first_past module_rows asked
    imports_tested tested first_from import_fits kind_fits desc_fits marked number_fits count_from given_of fitted uleb_at u32_at told_at narrowed
    onward u_n twos grown spent byte_at fixed_at taken_at counted_at
    Reads.checked name_at module_at header_at magic same walk_from walk turn_of relocated section_at contents_at add_section capacity_of no_tables imports_of
    exports_of entries_from import_at export_at desc_at func_at up_to scan seq_len after followers follow_in covers utf8_table follow seek begins
    index_of laid cells import_cells desc_cells cell_of range_of kind_is import_domain path_domain head_of classed_by Classify.passes preview heads
    read_policy read_with whole_text run zero_policy stance_of obey lines_of lines_from line_len line_step cr_before policy_directive policy_core
    policy_spoken policy_worded defaulted plain_by listed_by rule_directive quotes shorn bare fault trim trim_start trim_end start_len end_len chars
    chars_from more more_by code_of code_by is_white whites in_some
checked = (refl, refl, refl, refl)

counted : ((outcome clock_policy (2 ∷ [])).count ≡ 0) × ((outcome (all_but 3) (2 ∷ [])).count ≡ 0) × ((outcome (all_but 3) (0 ∷ [])).count ≡ 0)
    × ((outcome clock_policy (0 ∷ [])).count ≡ 1)
unfolding outcome how_many members effective_of
counted = (refl, refl, refl, refl)

clear : (f t : List ℕ) (o : Outcome) → checked_of f t ≡ accepted o → o.count ≡ 0 → Clear f t
clear f t o e n = record { outcome = o; answers = e; none = n }

pub series-seen : SeriesSeen
series-seen =
    record {
      four = (bytes.1, answered _ _ _ _ first, (bytes.2, answered _ _ _ _ second, (bytes.3, answered _ _ _ _ third, tt)));
      between = gives wider approved two one _ _ bytes.0 bytes.3 reads.0 reads.3 differ.0;
      step1 = first;
      step2 = second;
      step3 = third;
      empty = gives wider turned two two _ _ bytes.0 bytes.2 reads.0 reads.2 differ.4;
      each = (
        record {
          all = builds_told (build wider two) (build turned two);
          answers = files-told wider turned two two bytes.0 bytes.2 reads.0 reads.2;
          says = fine.0;
        },
        record {
          all = builds_told (build turned two) (build wider two);
          answers = files-told turned wider two two bytes.2 bytes.0 reads.2 reads.0;
          says = fine.1;
        },
      );
      clock = clear (sole 2) clock_alone _ checked.0 counted.0;
      clock_too = clear (sole 2) all_but_network _ checked.1 counted.1;
      files = clear (sole 0) all_but_network _ checked.2 counted.2;
      files_not = λ c.
          let e : c.outcome ≡ outcome clock_policy (0 ∷ []) = one_value (sym c.answers ∙ checked.3) in
          let k : c.outcome.count ≡ 1 = ap (λ (o : Outcome). o.count) e ∙ counted.3 in
          omega (arith, k, c.none);
    }
  where
    first : Gives wider elsewhere (entry Removed (export_b 1) ∷ []) forth
    first = gives wider elsewhere two one _ _ bytes.0 bytes.1 reads.0 reads.1 differ.1

    second : Gives elsewhere turned (entry Added (export_b 0) ∷ []) back
    second = gives elsewhere turned one two _ _ bytes.1 bytes.2 reads.1 reads.2 differ.2

    third : Gives turned approved (entry Removed (export_b 0) ∷ []) []
    third = gives turned approved two one _ _ bytes.2 bytes.3 reads.2 reads.3 differ.3
