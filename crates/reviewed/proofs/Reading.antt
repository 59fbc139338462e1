-- The report by what was read: a refusal is told, and what was accepted is gone on with. Assumes nothing.
use Rattle.std.specs.Prelude.{Result, Ok, Err}
use mathlib.Core.Path.{◌≡◌, refl, sym, ap, ◌∙◌}
use mathlib.Core.Bool.{Bool}
use mathlib.Core.List.{List, [], ◌++◌}
use Prim.Native.Nat.{ℕ, ◌≤◌, ◌<◌}
use borrow.Author.Tests.{lt-ltb, le-ltb}
use lib.ListN.{length}
use Rattle.refusal.specs.Sizes.{text_limit}
use Rattle.refusal.specs.Said.{Said, accepted, refused, refused_by, said_by, number_of, where_of, follow, spot}
use Rattle.refusal.specs.declared.Refusal.{Refusal}
use Rattle.refusal.proofs.Following.{never, one_value, followed, first-refused}
use Rattle.table.specs.Table.{laid, cells, capacity_of}
use Rattle.table.specs.Shape.{capacity_in}
use Rattle.wasm.specs.Rows.{import_cells, export_cells}
use Rattle.wasm.specs.Module.{Parsed, Sizes, Lent, tables_of, module_at, module_of, ModuleIs}
use Rattle.wasm.specs.Module as wasm
use Rattle.wasm.specs.declared.Module.{Module}
use Rattle.policy.specs.Reader.{read_policy}
use Rattle.policy.specs.View.{says}
use Rattle.policy.specs.declared.Policy.{Policy}
use Rattle.verdicts.specs.Evaluate.{Outcome, no_outcome, outcome_of, said_evaluation, compliant}
use Rattle.verdicts.specs.declared.Verdict.{Verdict}
use Rattle.verdicts.specs.declared.Evaluation.{Evaluation}
use Rattle.checking.specs.Checking.{checked_of}
use Rattle.differences.specs.Compared as pair
use Rattle.differences.specs.Compared.{Given, given, Lists, verdict_on, compared, listed, Compares, export_diff_cells, need_diff_cells}
use Rattle.compat.specs.Answer.{said_compared}
use Rattle.compat.specs.declared.Lists as told
use Rattle.reasons.specs.Reasons.{reason_lines}
use Rattle.reviewed.specs.Words.{of_policy_w, of_baseline_w, of_comparison_w}
use Rattle.reviewed.specs.Texts.{name_text, counts_text, reason_text, domains_text, compliance_text, stand_text, verdict_text, none_text}
use Rattle.reviewed.specs.Review.{policy_text, rows, lent, read_build, build_text, build_of, compliant_in, violation_row, check_text}
use Rattle.reviewed.specs.Review.{removed_row}
use Rattle.reviewed.specs.Review.{added_row, lists_text, compared_text, against_text, builds_text, verdict_of, shown_name, BuildRead}
use Rattle.reviewed.specs.Review.{verdicts_in}
use Rattle.reviewed.proofs.Telling.{name-said}

-- ---- a policy
module _ (s : List ℕ) {r : Result Policy Refusal} (q : said_by r ≡ read_policy s) where
  module _ {why : Refusal} (e : r ≡ Err why) where
    unread : read_policy s ≡ refused_by why
    unread = sym q ∙ ap said_by e

    pub policy-stops : reason_text (number_of why) (where_of why) ≡ policy_text s
    unfolding policy_text
    policy-stops = rw unread

    pub verdict-stops : (b c : List ℕ) → none_text of_policy_w (number_of why) (where_of why) ≡ verdict_of s b c
    unfolding verdict_of
    verdict-stops b c = rw unread

  module _ {p : Policy} (e : r ≡ Ok p) where
    known : read_policy s ≡ accepted p
    known = sym q ∙ ap said_by e

    pub policy-goes : name_text (shown_name s p) p.permit ≡ policy_text s
    unfolding policy_text says
    policy-goes = rw (known, name-said s p known)

    pub verdict-goes : (b c : List ℕ) → builds_text s b c ≡ verdict_of s b c
    unfolding verdict_of
    verdict-goes b c = rw known

-- ---- a module is read
module _ (b : List ℕ) where
  build-long : text_limit < length b → read_build b ≡ refused 14 (spot 0)
  unfolding read_build
  build-long h = rw (lt-ltb text_limit (length b) h)

  build-short : length b ≤ text_limit → module_at b lent ≡ read_build b
  unfolding read_build
  build-short h = rw (le-ltb text_limit (length b) h)

  pub read-long : (imports exports : List ℕ) → text_limit < length b → BuildRead b imports exports (refused 14 (spot 0))
  unfolding follow
  read-long imports exports h =
      let e = build-long h in
      record {
        answer-is = rw e;
        imports-are = λ m q. absurd (never (sym e ∙ q));
        exports-are = λ m q. absurd (never (sym e ∙ q));
      }

  pub read_short : {z : Sizes} {l : Lent} {a : Said Module} {imports exports : List ℕ} → length b ≤ text_limit → z ≡ lent
      → ModuleIs (length b) z (module_at b z) l a → imports ≡ l.imports → exports ≡ l.exports → BuildRead b imports exports a
  unfolding tables_of
  read_short {z} {l} {a} h f k i x =
      let p : ModuleIs (length b) lent (module_at b lent) l a = rw f at k in
      let e = build-short h in
      record {
        answer-is = p.answer-is ∙ ap (λ (x : Said Parsed). follow x (λ m. accepted (module_of (length b) m))) e;
        imports-are = λ m q.
            i
            ∙ p.tables-are.imports-are
            ∙ ap (λ (x : Said Parsed). laid (rows 2) (cells import_cells (tables_of x).imports)) (e ∙ q);
        exports-are = λ m q.
            x
            ∙ p.tables-are.exports-are
            ∙ ap (λ (x : Said Parsed). laid (rows 3) (cells export_cells (tables_of x).exports)) (e ∙ q);
      }

-- ---- what was evaluated, by its answer
pub compliant-is : {o : Said Outcome} (r : Result Evaluation Refusal) → said_evaluation r ≡ o → compliant r ≡ compliant_in o
compliant-is (Ok e) h = ap compliant_in h
compliant-is (Err why) h = ap compliant_in h

pub verdicts-are : {o : Said Outcome} (r : Result Evaluation Refusal) → said_evaluation r ≡ o → verdicts_in r ≡ (outcome_of o).verdicts
unfolding no_outcome
verdicts-are (Ok e) h = ap (λ (o : Said Outcome). (outcome_of o).verdicts) h
verdicts-are (Err why) h = ap (λ (o : Said Outcome). (outcome_of o).verdicts) h

-- ---- a module that was read
module _ (b : List ℕ) {imports exports : List ℕ} {r : Result Module Refusal} (q : BuildRead b imports exports (said_by r)) where
  module _ {why : Refusal} (e : r ≡ Err why) where
    stopped : read_build b ≡ refused_by why
    stopped = first-refused (read_build b) (module_of (length b)) (sym q.answer-is ∙ ap said_by e)

    pub counts-stops : reason_text (number_of why) (where_of why) ≡ build_text b
    unfolding build_text
    counts-stops = rw stopped

    pub baseline-stops : (text c : List ℕ) → none_text of_baseline_w (number_of why) (where_of why) ≡ builds_text text b c
    unfolding builds_text
    baseline-stops text c = rw stopped

    pub candidate-stops : (text : List ℕ) (g : Given) → none_text [] (number_of why) (where_of why) ≡ against_text text g b
    unfolding against_text
    candidate-stops text g = rw stopped

  module _ {m : Module} (e : r ≡ Ok m) where
    record Went : Type 0 where
      what : Parsed
      first : read_build b ≡ accepted what
      is : m ≡ module_of (length b) what

    went : Went
    went =
        let f = followed (read_build b) (λ m. accepted (module_of (length b) m)) (sym q.answer-is ∙ ap said_by e) in
        record { what = f.what; first = f.first; is = one_value (sym f.then) }

    pub counts-goes : counts_text m.length m.sections m.imports m.exports ≡ build_text b
    unfolding build_text module_of wasm.counts_of
    counts-goes =
        ap (λ (v : Module). counts_text v.length v.sections v.imports v.exports) went.is ∙ rw went.first

    build-is : given b imports m.imports exports m.exports ≡ build_of b went.what
    unfolding module_of wasm.counts_of
    build-is =
        let w = went.what in
        let g = build_of b w in
        ap (λ (v : Module). given b imports v.imports exports v.exports) went.is
        ∙ ap (λ (t : List ℕ). given b t g.import_count exports g.export_count) (q.imports-are w went.first)
        ∙ ap (λ (t : List ℕ). given b g.imports g.import_count t g.export_count) (q.exports-are w went.first)

    pub baseline-goes : (text c : List ℕ) → against_text text (given b imports m.imports exports m.exports) c ≡ builds_text text b c
    unfolding builds_text
    baseline-goes text c = rw went.first (ap (λ (g : Given). against_text text g c) build-is)

    pub candidate-goes : (text : List ℕ) (g : Given) {fine : Bool} {vs : List Verdict} → fine ≡ compliant_in (checked_of b text)
        → vs ≡ (outcome_of (checked_of b text)).verdicts
        → (domains_text vs ++ (compliance_text fine vs ++ reason_lines (violation_row b imports vs) m.imports))
        ++ compared_text fine g (given b imports m.imports exports m.exports)
        ≡ against_text text g b
    unfolding against_text
    candidate-goes text g k h =
        let o = checked_of b text in
        rw (k, h, went.first) (ap (λ (h : Given). check_text o h ++ compared_text (compliant_in o) g h) build-is)

-- ---- the comparison
rooms : (b c : Given) → compared b c (capacity_in 8 (rows 8)) (capacity_in 9 (rows 9)) ≡ compared b c 1024 1024
unfolding capacity_of
rooms b c = refl

-- the lines of the tables are those of the lists
same_lines : (fine : Bool) (b c : Given) (l : Lists) {xd cd : List ℕ} {m n : ℕ} {yes : Bool} → m ≡ length l.exports
    → n ≡ length l.needs → yes ≡ (verdict_on l).compatible → xd ≡ laid (rows 8) (cells export_diff_cells l.exports)
    → cd ≡ laid (rows 9) (cells need_diff_cells l.needs)
    → stand_text yes
    ++ (reason_lines (removed_row b.file b.exports xd) m
    ++ (reason_lines (added_row c.file c.imports cd) n ++ verdict_text fine yes))
    ≡ lists_text fine b c l
same_lines fine b c l e f g h k = rw (e, f, g, h, k)

module _ (fine : Bool) (b c : Given) {xd0 xd cd0 cd : List ℕ} (r : Result told.Lists Refusal)
    (long8 : length xd0 ≡ rows 8) (long9 : length cd0 ≡ rows 9)
    (h : Compares (compared b c (capacity_in 8 (length xd0)) (capacity_in 9 (length cd0))) xd0 xd cd0 cd (said_compared r)) where
  same : compared b c (capacity_in 8 (length xd0)) (capacity_in 9 (length cd0)) ≡ compared b c 1024 1024
  same =
      ap (λ (n : ℕ). compared b c (capacity_in 8 n) (capacity_in 9 (length cd0))) long8
      ∙ ap (λ (n : ℕ). compared b c (capacity_in 8 (rows 8)) (capacity_in 9 n)) long9
      ∙ rooms b c

  answer : said_compared r ≡ follow (compared b c 1024 1024) (λ l. accepted (verdict_on l))
  answer = h.answer-is ∙ ap (λ (y : Said Lists). follow y (λ l. accepted (verdict_on l))) same

  pub compared-stops : {why : Refusal} → r ≡ Err why → none_text of_comparison_w (number_of why) (where_of why) ≡ compared_text fine b c
  unfolding compared_text
  compared-stops e = rw (first-refused (compared b c 1024 1024) verdict_on (sym answer ∙ ap said_compared e))

  pub compared-goes : {t : told.Lists} → r ≡ Ok t
      → stand_text t.compatible
      ++ (reason_lines (removed_row b.file b.exports xd) t.exports
      ++ (reason_lines (added_row c.file c.imports cd) t.capabilities ++ verdict_text fine t.compatible))
      ≡ compared_text fine b c
  unfolding compared_text verdict_on
  compared-goes {t} e =
      let f = followed (compared b c 1024 1024) (λ l. accepted (verdict_on l)) (sym answer ∙ ap said_compared e) in
      let l = f.what in
      let v : verdict_on l ≡ record { exports = t.exports; capabilities = t.capabilities; compatible = t.compatible } = one_value f.then in
      let many8 : t.exports ≡ length l.exports = sym (ap (λ (u : pair.Verdict). u.exports) v) in
      let many9 : t.capabilities ≡ length l.needs = sym (ap (λ (u : pair.Verdict). u.capabilities) v) in
      let stands : t.compatible ≡ (verdict_on l).compatible = sym (ap (λ (u : pair.Verdict). u.compatible) v) in
      let held8 : xd ≡ laid (rows 8) (cells export_diff_cells l.exports) =
      h.table8-is
      ∙ ap (λ (y : Said Lists). laid (length xd0) (cells export_diff_cells (listed y).exports)) (same ∙ f.first)
      ∙ ap (λ (k : ℕ). laid k (cells export_diff_cells l.exports)) long8 in
      let held9 : cd ≡ laid (rows 9) (cells need_diff_cells l.needs) =
      h.table9-is
      ∙ ap (λ (y : Said Lists). laid (length cd0) (cells need_diff_cells (listed y).needs)) (same ∙ f.first)
      ∙ ap (λ (k : ℕ). laid k (cells need_diff_cells l.needs)) long9 in
      rw f.first (same_lines fine b c l many8 many9 stands held8 held9)
