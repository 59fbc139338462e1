-- docs/RULES.md, "Programs": what `review` prints of a policy, a baseline and a candidate, a function of their paths and bytes.
-- Assumes nothing.
use Rattle.std.specs.Prelude.{◌≡◌, Bool, false, List, [], ◌++◌, ℕ, ◌*◌, eqb, ltb, length, Result, Ok, Err}
use Rattle.refusal.specs.Pick.{pick, both}
use Rattle.refusal.specs.Sizes.{text_limit}
use Rattle.refusal.specs.Said.{Said, accepted, refused, follow, Place, spot}
use Rattle.refusal.specs.declared.Refusal.{Refusal}
use Rattle.table.specs.Table.{laid, cells, range_of}
use Rattle.table.specs.Shape.{width, cell_in}
use Rattle.sorting.specs.Keys.{row_name}
use Rattle.import_rows.specs.Queries.{kind_is}
use Rattle.wasm.specs.Rows.{import_cells, export_cells}
use Rattle.wasm.specs.Module.{Sizes, Parsed, module_at, module_of}
use Rattle.wasm.specs.declared.Module.{Module}
use Rattle.policy.specs.Reader.{read_policy}
use Rattle.policy.specs.View.{no_name, says}
use Rattle.policy.specs.declared.Policy.{Policy}
use Rattle.verdicts.specs.Evaluate.{Outcome, outcome_of, no_verdict, seven_of, violates}
use Rattle.verdicts.specs.declared.Evaluation.{Evaluation}
use Rattle.verdicts.specs.declared.Verdict.{Verdict}
use Rattle.requirements.specs.Requirements.{row_domain}
use Rattle.checking.specs.Checking.{checked_of}
use Rattle.differences.specs.View.{export_key_at}
use Rattle.differences.specs.Compared.{Given, given, Lists, compared, verdict_on, export_diff_cells, need_diff_cells}
use Rattle.reasons.specs.Reasons.{reason_lines, by_change}
use Rattle.report.specs.Prints.{whole_in}
use Rattle.reviewed.specs.Words.{policy_path_w, baseline_w, candidate_w, none_w, of_policy_w, of_baseline_w, of_comparison_w, unread_w}
use Rattle.reviewed.specs.Words.{no_room_w}
use Rattle.reviewed.specs.Texts.{path_text, name_text, counts_text, reason_text, nth, domains_text, compliance_text, violation_text}
use Rattle.reviewed.specs.Texts.{stand_text, removed_text, added_text, verdict_text, none_text}

pub record File : Type 0 where
  pub path : List ℕ
  pub bytes : List ℕ

abbrev pub file_at : List ℕ → List ℕ → File
file_at path bytes = record { path = path; bytes = bytes }

-- a text for what was accepted, another for a refusal
abbrev pub or_reason : {A : Type 0} → (A → List ℕ) → (ℕ → Place → List ℕ) → Said A → List ℕ
or_reason f g (accepted v) = f v
or_reason f g (refused n p) = g n p

-- ---- below the paths
unfoldable pub policy_text : List ℕ → List ℕ
policy_text s = or_reason (λ p. name_text (says s p).name (says s p).permit) reason_text (read_policy s)

-- every table has so many rows
abbrev pub lent_rows : ℕ
lent_rows = 1024

abbrev pub rows : ℕ → ℕ
rows t = lent_rows * width t

abbrev pub lent : Sizes
lent = record { sections = rows 1; imports = rows 2; exports = rows 3; names = rows 4 }

-- a module of at most 65,536 bytes
unfoldable pub read_build : List ℕ → Said Parsed
read_build b = pick (ltb text_limit (length b)) (refused 14 (spot 0)) (module_at b lent)

abbrev pub counts_in : ℕ → Parsed → List ℕ
counts_in n m = counts_text n (length m.tables.sections) (length m.tables.imports) (length m.tables.exports)

unfoldable pub build_text : List ℕ → List ℕ
build_text b = or_reason (counts_in (length b)) reason_text (read_build b)

-- what the read leaves of it
abbrev pub build_of : List ℕ → Parsed → Given
build_of file m =
    given file (laid (rows 2) (cells import_cells m.tables.imports)) (length m.tables.imports)
    (laid (rows 3) (cells export_cells m.tables.exports)) (length m.tables.exports)

-- ---- the verdicts of a candidate: the seven domains, whether it is compliant, and each import that is not allowed
-- accepted, and no domain violates
abbrev pub compliant_in : Said Outcome → Bool
compliant_in (accepted o) = eqb o.count 0
compliant_in (refused n p) = false

-- row i of table 2: a function of a domain that violates
unfoldable pub violation_row : List ℕ → List ℕ → List Verdict → ℕ → List ℕ
violation_row file imports vs i =
    pick (both (kind_is imports 0 i) (violates (nth vs (row_domain file imports i))))
    (violation_text (row_domain file imports i) (row_name file imports (width 2) 2 3 i) (row_name file imports (width 2) 0 1 i)) []

abbrev pub check_text : Said Outcome → Given → List ℕ
check_text o c =
    domains_text (outcome_of o).verdicts
    ++ (compliance_text (compliant_in o) (outcome_of o).verdicts
    ++ reason_lines (violation_row c.file c.imports (outcome_of o).verdicts) c.import_count)

-- ---- the comparison: whether the candidate can stand in, the reasons why not, and the verdict
-- row i of table 8: an export that was removed, by its name and kind in the baseline
unfoldable pub removed_row : List ℕ → List ℕ → List ℕ → ℕ → List ℕ
removed_row file exports xd i =
    by_change 8 xd i (removed_text (export_key_at file exports (cell_in 8 xd i 1)).name (export_key_at file exports (cell_in 8 xd i 1)).kind) []

-- row i of table 9: a capability that was added, by its source in the candidate
unfoldable pub added_row : List ℕ → List ℕ → List ℕ → ℕ → List ℕ
added_row file imports cd i = by_change 9 cd i [] (added_text (cell_in 9 cd i 1) (row_name file imports (width 2) 0 1 (cell_in 9 cd i 2)))

abbrev pub lists_text : Bool → Given → Given → Lists → List ℕ
lists_text fine b c l =
    stand_text (verdict_on l).compatible
    ++ (reason_lines (removed_row b.file b.exports (laid (rows 8) (cells export_diff_cells l.exports))) (length l.exports)
    ++ (reason_lines (added_row c.file c.imports (laid (rows 9) (cells need_diff_cells l.needs))) (length l.needs)
    ++ verdict_text fine (verdict_on l).compatible))

unfoldable pub compared_text : Bool → Given → Given → List ℕ
compared_text fine b c = or_reason (lists_text fine b c) (none_text of_comparison_w) (compared b c lent_rows lent_rows)

-- ---- all that follows the files, which ends in one verdict line
abbrev pub judged_text : Said Outcome → Given → Given → List ℕ
judged_text o b c = check_text o c ++ compared_text (compliant_in o) b c

-- the check is the whole check of the candidate's file under the policy's text
unfoldable pub against_text : List ℕ → Given → List ℕ → List ℕ
against_text text b candidate =
    or_reason (λ m. judged_text (checked_of candidate text) b (build_of candidate m)) (none_text []) (read_build candidate)

unfoldable pub builds_text : List ℕ → List ℕ → List ℕ → List ℕ
builds_text text baseline candidate =
    or_reason (λ m. against_text text (build_of baseline m) candidate) (none_text of_baseline_w) (read_build baseline)

unfoldable pub verdict_of : List ℕ → List ℕ → List ℕ → List ℕ
verdict_of text baseline candidate = or_reason (λ p. builds_text text baseline candidate) (none_text of_policy_w) (read_policy text)

-- ---- the report
unfoldable pub review_of : File → File → File → List ℕ
review_of t b c =
    path_text policy_path_w t.path
    ++ (policy_text t.bytes
    ++ (path_text baseline_w b.path
    ++ (build_text b.bytes
    ++ (path_text candidate_w c.path ++ (build_text c.bytes ++ verdict_of t.bytes b.bytes c.bytes)))))

-- of a candidate, where it, or what it is to be held against, cannot be read
unfoldable pub unread_of : List ℕ → List ℕ → List ℕ
unread_of whose path = path_text candidate_w path ++ (none_w ++ (whose ++ unread_w))

-- into so much room: all of it, where that is less than the room, or the one line that says so
unfoldable pub or_no_room : ℕ → List ℕ → List ℕ
or_no_room room w = pick (ltb (length w) room) w (whole_in room no_room_w)

-- ---- for the code
-- the name of a policy by its range
unfoldable pub shown_name : List ℕ → Policy → List ℕ
shown_name s p = pick p.named (range_of s p.start p.size) no_name

-- the answer of a read, and what tables 2 and 3 hold after one that is accepted
pub record BuildRead (file imports exports : List ℕ) (a : Said Module) : Type 0 where
  pub answer-is : a ≡ follow (read_build file) (λ m. accepted (module_of (length file) m))
  pub imports-are : (m : Parsed) → read_build file ≡ accepted m → imports ≡ laid (rows 2) (cells import_cells m.tables.imports)
  pub exports-are : (m : Parsed) → read_build file ≡ accepted m → exports ≡ laid (rows 3) (cells export_cells m.tables.exports)

-- the seven verdicts of a check
abbrev pub verdicts_in : Result Evaluation Refusal → List Verdict
verdicts_in (Ok e) = e.verdicts
verdicts_in (Err why) = seven_of (λ d. no_verdict)
