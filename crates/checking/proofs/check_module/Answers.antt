-- `check_module` meets its contract. Assumes nothing.
use Rattle.std.proofs.Common.{rules, ◌≡◌, Err}
use Rattle.checking.proofs.Checking.{too_long, text-bad, text-good}
use Rattle.checking.proofs.check_module.Goals as goal

pub returns-then-file-gt-MAX_FILE : goal.returns-then-file-gt-MAX_FILE
returns-then-file-gt-MAX_FILE c = too_long _ _ c.if-file-gt-MAX_FILE.true

pub returns-in_err-test_text : goal.returns-in_err-test_text
returns-in_err-test_text c =
    let e : c.from_residual.result ≡ Err c.in_err-test_text.field-0.0 = search rules in
    rw e (text-bad _ _ c.if-file-gt-MAX_FILE.false c.in_err-test_text.ensures)

pub returns : goal.returns
returns c = text-good _ _ c.if-file-gt-MAX_FILE.false c.in_ok-test_text.ensures c.check_file.ensures
