-- `differences::check_both` meets its contract. Assumes nothing.
use Rattle.std.specs.Prelude.{Err}
use mathlib.Core.Path.{◌≡◌, sym, ◌∙◌, ap}
use borrow.Author.Rules.{rules}
use Rattle.refusal.specs.Said.{said_by}
use Rattle.differences.proofs.Both.{first-long, second-long, first-bad, second-next}
use Rattle.differences.proofs.check_both.Goals.{then-baseline-gt-MAX_FILE-via-then-baseline-gt-MAX_FILE}
use Rattle.differences.proofs.check_both.Goals.{then-baseline-gt-MAX_FILE-via-else-baseline-gt-MAX_FILE+then-candidate-gt-MAX_FILE}
use Rattle.differences.proofs.check_both.Goals as goal

pub returns-then-baseline-gt-MAX_FILE : goal.returns-then-baseline-gt-MAX_FILE
returns-then-baseline-gt-MAX_FILE c =
    elim c.then-baseline-gt-MAX_FILE.branch [
      | then-baseline-gt-MAX_FILE-via-then-baseline-gt-MAX_FILE w ↦ first-long _ _ w.if-baseline-gt-MAX_FILE.true
      | then-baseline-gt-MAX_FILE-via-else-baseline-gt-MAX_FILE+then-candidate-gt-MAX_FILE w ↦
          second-long _ _ w.if-baseline-gt-MAX_FILE.false w.if-candidate-gt-MAX_FILE.true
    ]

pub returns-in_err-check_tables : goal.returns-in_err-check_tables
returns-in_err-check_tables c =
    let e : c.from_residual.result ≡ Err c.in_err-check_tables.field-0.0 = search rules in
    rw e (first-bad _ _ c.if-baseline-gt-MAX_FILE.false c.if-candidate-gt-MAX_FILE.false
    (sym c.check_tables.ensures ∙ ap said_by c.in_err-check_tables.was))

pub returns : goal.returns
returns c =
    c.check_tables-2.ensures
    ∙ second-next _ _ c.if-baseline-gt-MAX_FILE.false c.if-candidate-gt-MAX_FILE.false
    (sym c.check_tables.ensures ∙ ap said_by c.in_ok-check_tables.was)
