-- No report is longer than 1,218,700 bytes. Assumes nothing.
use mathlib.Core.Path.{◌≡◌, refl}
use mathlib.Core.Bool.{Bool, true, false}
use mathlib.Core.List.{List, [], ◌∷◌, ◌++◌}
use Prim.Native.Nat.{ℕ, zero, suc, ◌≤◌, ◌<◌, min}
use native.Mathlib.Omega.{arith}
use lib.Dec.{ltb, eqb}
use lib.ListN.{length, take, drop, length-append, length-take, length-drop}
use borrow.Author.Tests.{lt-ltb, ltb-false}
use Rattle.refusal.specs.Pick.{pick}
use Rattle.refusal.specs.Sizes.{file_limit, text_limit}
use Rattle.refusal.specs.Said.{Said, accepted, refused, follow, spot}
use Rattle.refusal.proofs.Following.{followed}
use Rattle.text.specs.Whole.{whole_text}
use Rattle.table.specs.Table.{laid, cells}
use Rattle.table.specs.Shape.{width, limit}
use Rattle.table.proofs.Giving.{Gives, gives-done, gives-stop, gives-pick, gives-follow}
use Rattle.table.proofs.Cells.{capacity-limit}
use Rattle.wasm.specs.Module.{Parsed, module_at}
use Rattle.conform.specs.Claims.{Bytes}
use Rattle.conform.specs.Sound.{total, import_size, export_size, limits}
use Rattle.conform.proofs.Sound.{rows-sound}
use Rattle.conform.proofs.Together.{names-together}
use Rattle.policy.specs.Reader.{read_policy, read_with}
use Rattle.policy.specs.View.{no_name, range, says}
use Rattle.policy.specs.declared.Policy.{Policy}
use Rattle.verdicts.specs.Evaluate.{Outcome, outcome_of, outcome, seven_of, verdict_for, how_many, no_verdict, no_outcome, domains_test}
use Rattle.verdicts.specs.Evaluate.{first_past}
use Rattle.verdicts.specs.Evaluate.{evaluated}
use Rattle.verdicts.specs.declared.Verdict.{Verdict}
use Rattle.checking.specs.Checking.{weighed, held_to, read_then, checked_of}
use Rattle.differences.specs.Compared.{Given, Lists, lists, viewed, verdict_on, export_diff_cells, need_diff_cells, tables_tested}
use Rattle.differences.specs.Compared.{roomed, compared}
use Rattle.output.specs.Bytes.{most}
use Rattle.reasons.specs.Reasons.{reason_lines}
use Rattle.rewritten.proofs.Long.{whole-short}
use Rattle.reviewed.specs.Words.{policy_path_w, baseline_w, candidate_w, none_w, of_policy_w, of_baseline_w, of_comparison_w, unread_w}
use Rattle.reviewed.specs.Texts.{path_text, name_text, reason_text, nth, domains_text, compliance_text, stand_text, verdict_text, none_text}
use Rattle.reviewed.specs.Review.{File, or_reason, policy_text, lent_rows, rows, lent, read_build, counts_in, build_text, build_of}
use Rattle.reviewed.specs.Review.{compliant_in, violation_row}
use Rattle.reviewed.specs.Review.{check_text, removed_row, added_row, lists_text, compared_text, judged_text, against_text, builds_text}
use Rattle.reviewed.specs.Review.{verdict_of}
use Rattle.reviewed.specs.Review.{review_of, unread_of, or_no_room}
use Rattle.lengths.specs.Claims.{longest_report, path_limit, HandedOver, Lengths}
use Rattle.lengths.proofs.Lines.{path-long, name-long, counts-long, reason-long, none-long, domains-long, compliance-long, stand-long}
use Rattle.lengths.proofs.Lines.{verdict-long}
use Rattle.lengths.proofs.Rows.{violations-long, exports-long, needs-long}
use Rattle.lengths.proofs.Places.{policy-short, build-accepts, build-short, Counted, compared-short}

-- ---- a policy
text-short : (s : List ℕ) (p : Policy) → read_policy s ≡ accepted p → length s ≤ text_limit
unfolding read_policy read_with
text-short s p e = whole-short s (followed (whole_text s) _ e).first

said-short : (s : List ℕ) (p : Policy) → length s ≤ text_limit → length (says s p).name ≤ text_limit
unfolding says
said-short s p h = by p.named
  where
    by : (t : Bool) → length (pick t (range s p.start p.size) no_name) ≤ text_limit
    by true = omega (arith, length-take p.size (drop p.start s), length-drop p.start s)
    by false = omega arith

policy-long : (s : List ℕ) → length (policy_text s) ≤ 262164
unfolding policy_text
policy-long s = by (read_policy s) refl
  where
    by : (o : Said Policy) → read_policy s ≡ o
        → length (or_reason (λ p. name_text (says s p).name (says s p).permit) reason_text o) ≤ 262164
    by (accepted p) e = omega (arith, name-long (says s p).name (says s p).permit, said-short s p (text-short s p e))
    by (refused n p) e = omega (arith, reason-long n p (policy-short s e))

-- ---- a module that was read
pub record Fitting (b : List ℕ) (m : Parsed) : Type 0 where
  pub few : length b ≤ text_limit
  pub sections : length m.tables.sections ≤ 256
  pub imports : length m.tables.imports ≤ 1024
  pub exports : length m.tables.exports ≤ 1024
  pub import-names : total import_size m.tables.imports ≤ text_limit
  pub export-names : total export_size m.tables.exports ≤ text_limit

module _ (b : List ℕ) (bytes : Bytes b) where
  build-fits : (m : Parsed) → read_build b ≡ accepted m → Fitting b m
  build-fits m e =
      let a = build-accepts b m e in
      let r = (rows-sound b lent m bytes a.is).rows_ok in
      let t = names-together b lent m a.is in
      record {
        few = a.few;
        sections = omega (arith, r.sections-few, capacity-limit (rows 1) (width 1) (limit 1));
        imports = omega (arith, r.imports-few, capacity-limit (rows 2) (width 2) (limit 2));
        exports = omega (arith, r.exports-few, capacity-limit (rows 3) (width 3) (limit 3));
        import-names = omega (arith, t.imports, a.few);
        export-names = omega (arith, t.exports, a.few);
      }

  build-long : length (build_text b) ≤ 130
  unfolding build_text
  build-long = by (read_build b) refl
    where
      by : (o : Said Parsed) → read_build b ≡ o → length (or_reason (counts_in (length b)) reason_text o) ≤ 130
      by (accepted m) e =
          let f = build-fits m e in
          counts-long (length b) _ _ _ (omega (arith, f.few)) (omega (arith, f.sections)) (omega (arith, f.imports))
          (omega (arith, f.exports))
      by (refused n p) e = reason-long n p (build-short b bytes p e)

-- ---- the check: a domain is required at most so many times
unfoldable Seldom : Outcome → Type 0
Seldom o = (d : ℕ) → (nth o.verdicts d).many ≤ most

many-few : (d : ℕ) (ns : List ℕ) → how_many d ns ≤ length ns
unfolding how_many
many-few d [] = omega arith
many-few d (x ∷ ns) = by (eqb x d) (many-few d ns)
  where
    by : (t : Bool) → how_many d ns ≤ length ns → pick t (suc (how_many d ns)) (how_many d ns) ≤ suc (length ns)
    by true h = omega arith
    by false h = omega arith

seven-few : (f : ℕ → Verdict) → ((d : ℕ) → (f d).many ≤ most) → (d : ℕ) → (nth (seven_of f) d).many ≤ most
seven-few f h zero = h 0
seven-few f h (suc zero) = h 1
seven-few f h (suc (suc zero)) = h 2
seven-few f h (suc (suc (suc zero))) = h 3
seven-few f h (suc (suc (suc (suc zero)))) = h 4
seven-few f h (suc (suc (suc (suc (suc zero))))) = h 5
seven-few f h (suc (suc (suc (suc (suc (suc zero)))))) = h 6
seven-few f h (suc (suc (suc (suc (suc (suc (suc d))))))) = omega arith

-- the test of the numbers, after that of the count
abbrev numbers_test : List ℕ → ℕ → Said (Unit {0})
numbers_test ns n = pick (ltb (first_past (take n ns)) n) (refused 15 (spot (first_past (take n ns)))) (accepted tt)

evaluated-seldom : (ns : List ℕ) (n : ℕ) (p : Policy) → Gives Seldom (evaluated ns n p)
unfolding evaluated domains_test outcome Seldom follow
evaluated-seldom ns n p = by (ltb (min (length ns) (limit 7)) n) refl
  where
    few : n ≤ min (length ns) (limit 7) → (d : ℕ) → how_many d (take n ns) ≤ most
    few h d = omega (arith, many-few d (take n ns), length-take n ns)

    by : (t : Bool) → ltb (min (length ns) (limit 7)) n ≡ t
        → Gives Seldom (follow (pick t (refused 15 (spot (min (length ns) (limit 7)))) (numbers_test ns n))
        (λ ok. accepted (outcome p (take n ns))))
    by true q = gives-stop Seldom 15 (spot (min (length ns) (limit 7)))
    by false q =
        gives-follow Seldom (numbers_test ns n) (λ ok. accepted (outcome p (take n ns))) (λ ok e.
        gives-done Seldom (outcome p (take n ns))
        (seven-few (λ d. verdict_for p d (how_many d (take n ns))) (few (ltb-false (min (length ns) (limit 7)) n q))))

checked-seldom : (file text : List ℕ) → Gives Seldom (checked_of file text)
unfolding checked_of read_then held_to weighed
checked-seldom file text =
    gives-pick Seldom (ltb file_limit (length file)) _ _ (gives-stop Seldom 14 (spot 0))
    (gives-follow Seldom (whole_text text) _ (λ u e1.
    gives-follow Seldom (module_at file limits) _ (λ m e2.
    gives-follow Seldom (read_policy text) _ (λ p e3.
    gives-follow Seldom _ _ (λ rows e4. evaluated-seldom _ (length rows) p)))))

check-seldom : (file text : List ℕ) (d : ℕ) → (nth (outcome_of (checked_of file text)).verdicts d).many ≤ most
unfolding Gives Seldom no_outcome
check-seldom file text = by (checked_of file text) (checked-seldom file text)
  where
    by : (o : Said Outcome) → Gives Seldom o → (d : ℕ) → (nth (outcome_of o).verdicts d).many ≤ most
    by (accepted o) h = h o refl
    by (refused n p) h = seven-few (λ d. no_verdict) (λ d. omega arith)

-- ---- a baseline and a candidate that were read
counted : (file : List ℕ) (m : Parsed) → Fitting file m → Counted (build_of file m)
counted file m f = record { imports = f.imports; exports = f.exports }

module _ (old new : List ℕ) (m k : Parsed) (f : Fitting old m) (g : Fitting new k) (fine : Bool) where
  abbrev b : Given
  b = build_of old m

  abbrev c : Given
  c = build_of new k

  lists-long : length (lists_text fine b c (lists (viewed b) (viewed c))) ≤ 598105
  lists-long =
      let l = lists (viewed b) (viewed c) in
      let lost = reason_lines (removed_row old b.exports (laid (rows 8) (cells export_diff_cells l.exports))) (length l.exports) in
      let more = reason_lines (added_row new c.imports (laid (rows 9) (cells need_diff_cells l.needs))) (length l.needs) in
      let last = verdict_text fine (verdict_on l).compatible in
      omega (
        arith,
        length-append (stand_text (verdict_on l).compatible) (lost ++ (more ++ last)),
        length-append lost (more ++ last),
        length-append more last,
        stand-long (verdict_on l).compatible,
        verdict-long fine (verdict_on l).compatible,
        exports-long old (rows 3) (rows 8) m.tables.exports (viewed b) (viewed c) refl,
        needs-long new (rows 2) (rows 9) k.tables.imports (viewed b) (viewed c) refl,
        f.exports,
        f.export-names,
        g.imports,
        g.import-names,
      )

  unfoldable Few : Lists → Type 0
  Few l = length (lists_text fine b c l) ≤ 598105

  lists-few : Gives Few (compared b c lent_rows lent_rows)
  unfolding compared roomed Few
  lists-few =
      gives-pick Few (ltb file_limit (length old)) _ _ (gives-stop Few 14 (spot 0))
      (gives-pick Few (ltb file_limit (length new)) _ _ (gives-stop Few 14 (spot 0))
      (gives-follow Few (tables_tested b) _ (λ u e1.
      gives-follow Few (tables_tested c) _ (λ v e2.
      gives-follow Few _ _ (λ i e3. gives-follow Few _ _ (λ j e4. gives-done Few (lists (viewed b) (viewed c)) lists-long))))))

  compared-long : length (compared_text fine b c) ≤ 598105
  unfolding compared_text Gives Few
  compared-long = by (compared b c lent_rows lent_rows) refl
    where
      by : (o : Said Lists) → compared b c lent_rows lent_rows ≡ o → length (or_reason (lists_text fine b c) (none_text of_comparison_w) o) ≤ 598105
      by (accepted l) e = lists-few l e
      by (refused n p) e =
          omega (arith, none-long of_comparison_w n p (compared-short b c lent_rows lent_rows (counted old m f) (counted new k g) n p e))

-- ---- all that follows the files
module _ (text new : List ℕ) (bytes : Bytes new) where
  abbrev o : Said Outcome
  o = checked_of new text

  check-long : (k : Parsed) → Fitting new k → length (check_text o (build_of new k)) ≤ 308792
  check-long k g =
      let vs = (outcome_of o).verdicts in
      let last = reason_lines (violation_row new (build_of new k).imports vs) (length k.tables.imports) in
      omega (
        arith,
        length-append (domains_text vs) (compliance_text (compliant_in o) vs ++ last),
        length-append (compliance_text (compliant_in o) vs) last,
        domains-long vs (check-seldom new text),
        compliance-long (compliant_in o) vs,
        violations-long new (rows 2) k.tables.imports vs,
        g.imports,
        g.import-names,
      )

  against-long : (old : List ℕ) (m : Parsed) → Fitting old m → length (against_text text (build_of old m) new) ≤ 906897
  unfolding against_text
  against-long old m f = by (read_build new) refl
    where
      by : (x : Said Parsed) → read_build new ≡ x
          → length (or_reason (λ k. judged_text o (build_of old m) (build_of new k)) (none_text []) x) ≤ 906897
      by (accepted k) e =
          let g = build-fits new bytes k e in
          let last = compared_text (compliant_in o) (build_of old m) (build_of new k) in
          omega (
            arith,
            length-append (check_text o (build_of new k)) last,
            check-long k g,
            compared-long old new m k f g (compliant_in o),
          )
      by (refused n p) e = omega (arith, none-long [] n p (build-short new bytes p e))

  builds-long : (old : List ℕ) → Bytes old → length (builds_text text old new) ≤ 906897
  unfolding builds_text
  builds-long old all = by (read_build old) refl
    where
      by : (x : Said Parsed) → read_build old ≡ x
          → length (or_reason (λ m. against_text text (build_of old m) new) (none_text of_baseline_w) x) ≤ 906897
      by (accepted m) e = against-long old m (build-fits old all m e)
      by (refused n p) e = omega (arith, none-long of_baseline_w n p (build-short old all p e))

  verdicts-long : (old : List ℕ) → Bytes old → length (verdict_of text old new) ≤ 906897
  unfolding verdict_of
  verdicts-long old all = by (read_policy text) refl
    where
      by : (x : Said Policy) → read_policy text ≡ x → length (or_reason (λ p. builds_text text old new) (none_text of_policy_w) x) ≤ 906897
      by (accepted p) e = builds-long old all
      by (refused n p) e = omega (arith, none-long of_policy_w n p (policy-short text e))

-- ---- the report
enough-room : (t b c : File) → HandedOver t b c → length (review_of t b c) ≤ longest_report
unfolding review_of
enough-room t b c h =
    let r6 = verdict_of t.bytes b.bytes c.bytes in
    let r5 = build_text c.bytes ++ r6 in
    let r4 = path_text candidate_w c.path ++ r5 in
    let r3 = build_text b.bytes ++ r4 in
    let r2 = path_text baseline_w b.path ++ r3 in
    let r1 = policy_text t.bytes ++ r2 in
    omega (
      arith,
      length-append (path_text policy_path_w t.path) r1,
      length-append (policy_text t.bytes) r2,
      length-append (path_text baseline_w b.path) r3,
      length-append (build_text b.bytes) r4,
      length-append (path_text candidate_w c.path) r5,
      length-append (build_text c.bytes) r6,
      path-long policy_path_w t.path,
      path-long baseline_w b.path,
      path-long candidate_w c.path,
      policy-long t.bytes,
      build-long b.bytes h.baseline-bytes,
      build-long c.bytes h.candidate-bytes,
      verdicts-long t.bytes c.bytes h.candidate-bytes b.bytes h.baseline-bytes,
      h.text_path,
      h.baseline-path,
      h.candidate-path,
    )

all_of : (w : List ℕ) (room : ℕ) → length w < room → or_no_room room w ≡ w
unfolding or_no_room
all_of w room h = rw (lt-ltb (length w) room h)

same-in-room : (t b c : File) (room : ℕ) → HandedOver t b c → longest_report < room → or_no_room room (review_of t b c) ≡ review_of t b c
same-in-room t b c room h k = all_of (review_of t b c) room (omega (arith, enough-room t b c h))

unread-in-room : (whose path : List ℕ) (room : ℕ) → length whose ≤ 9 → length path ≤ path_limit → longest_report < room
    → or_no_room room (unread_of whose path) ≡ unread_of whose path
unfolding unread_of
unread-in-room whose path room h i k =
    all_of (path_text candidate_w path ++ (none_w ++ (whose ++ unread_w))) room
    (omega (
      arith,
      length-append (path_text candidate_w path) (none_w ++ (whose ++ unread_w)),
      length-append whose unread_w,
      path-long candidate_w path,
    ))

pub lengths : Lengths
lengths = record { enough-room = enough-room; same-in-room = same-in-room; unread-in-room = unread-in-room }
