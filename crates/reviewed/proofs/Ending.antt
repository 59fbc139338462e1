-- Every report ends in a verdict line. Assumes nothing.
use mathlib.Core.Path.{refl, sym, ap, ◌∙◌}
use mathlib.Core.Bool.{Bool, true, false}
use mathlib.Core.List.{List, [], ◌++◌, append_assoc}
use Prim.Native.Nat.{ℕ}
use lib.ListN.{length}
use Rattle.refusal.specs.Said.{Said, accepted, refused}
use Rattle.table.specs.Table.{laid, cells}
use Rattle.policy.specs.Reader.{read_policy}
use Rattle.verdicts.specs.Evaluate.{Outcome}
use Rattle.checking.specs.Checking.{checked_of}
use Rattle.differences.specs.Compared.{Given, Lists, compared, verdict_on, export_diff_cells, need_diff_cells}
use Rattle.reasons.specs.Reasons.{reason_lines}
use Rattle.reviewed.specs.Words.{policy_path_w, baseline_w, candidate_w, of_policy_w, of_baseline_w, of_comparison_w}
use Rattle.reviewed.specs.Texts.{path_text, stand_text, verdict_text, none_text}
use Rattle.reviewed.specs.Review.{File, or_reason, policy_text, rows, read_build, build_text, build_of, compliant_in, check_text}
use Rattle.reviewed.specs.Review.{removed_row, added_row}
use Rattle.reviewed.specs.Review.{lists_text, compared_text, judged_text, against_text, builds_text, verdict_of, review_of, unread_of}
use Rattle.reviewed.specs.Claims.{VerdictLine, passes, stands-not, complies-not, neither, refused-with, not-read, EndsIn, Reviewing}

alone : {w : List ℕ} → VerdictLine w → EndsIn w
alone {w} v = record { before = []; last = w; verdict = v; is = refl }

later : (u : List ℕ) {w : List ℕ} → EndsIn w → EndsIn (u ++ w)
later u e =
    record {
      before = u ++ e.before;
      last = e.last;
      verdict = e.verdict;
      is = ap (λ (l : List ℕ). u ++ l) e.is ∙ sym (append_assoc u e.before e.last);
    }

four : (fine stands : Bool) → EndsIn (verdict_text fine stands)
unfolding verdict_text
four true true = alone passes
four true false = alone stands-not
four false true = alone complies-not
four false false = alone neither

-- a refusal is the verdict line; else it is that of what follows
either : {A : Type 0} (f : A → List ℕ) (whose : List ℕ) → ((v : A) → EndsIn (f v)) → (x : Said A) → EndsIn (or_reason f (none_text whose) x)
either f whose g (accepted v) = g v
either f whose g (refused n p) = alone (refused-with whose n p)

lists-end : (fine : Bool) (b c : Given) (l : Lists) → EndsIn (lists_text fine b c l)
lists-end fine b c l =
    let xd = laid (rows 8) (cells export_diff_cells l.exports) in
    let cd = laid (rows 9) (cells need_diff_cells l.needs) in
    later (stand_text (verdict_on l).compatible)
    (later (reason_lines (removed_row b.file b.exports xd) (length l.exports))
    (later (reason_lines (added_row c.file c.imports cd) (length l.needs))
    (four fine (verdict_on l).compatible)))

compared-ends : (fine : Bool) (b c : Given) → EndsIn (compared_text fine b c)
unfolding compared_text
compared-ends fine b c = either (lists_text fine b c) of_comparison_w (lists-end fine b c) (compared b c 1024 1024)

against-ends : (text : List ℕ) (b : Given) (candidate : List ℕ) → EndsIn (against_text text b candidate)
unfolding against_text
against-ends text b candidate =
    let o : Said Outcome = checked_of candidate text in
    either (λ m. judged_text o b (build_of candidate m)) []
    (λ m. later (check_text o (build_of candidate m)) (compared-ends (compliant_in o) b (build_of candidate m))) (read_build candidate)

builds-end : (text baseline candidate : List ℕ) → EndsIn (builds_text text baseline candidate)
unfolding builds_text
builds-end text baseline candidate =
    either (λ m. against_text text (build_of baseline m) candidate) of_baseline_w (λ m. against-ends text (build_of baseline m) candidate)
    (read_build baseline)

verdict-ends : (text baseline candidate : List ℕ) → EndsIn (verdict_of text baseline candidate)
unfolding verdict_of
verdict-ends text baseline candidate =
    either (λ p. builds_text text baseline candidate) of_policy_w (λ p. builds-end text baseline candidate) (read_policy text)

report-ends : (t b c : File) → EndsIn (review_of t b c)
unfolding review_of
report-ends t b c =
    later (path_text policy_path_w t.path)
    (later (policy_text t.bytes)
    (later (path_text baseline_w b.path)
    (later (build_text b.bytes)
    (later (path_text candidate_w c.path) (later (build_text c.bytes) (verdict-ends t.bytes b.bytes c.bytes))))))

unread-ends : (whose path : List ℕ) → EndsIn (unread_of whose path)
unfolding unread_of
unread-ends whose path = later (path_text candidate_w path) (alone (not-read whose))

pub reviewing : Reviewing
reviewing = record { report-ends = report-ends; unread-ends = unread-ends }
