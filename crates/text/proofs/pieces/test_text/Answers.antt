-- `test_text` meets its contract. Assumes nothing.
use native.Mathlib.Omega.{arith}
use lib.ListN.{length}
use borrow.Author.Tests.{lt-ltb, le-ltb}
use Rattle.text.specs.Utf8.{up_to}
use Rattle.text.specs.Whole.{whole_text}
use Rattle.refusal.specs.Sizes.{text_limit}
use Rattle.text.proofs.pieces.test_text.Goals as goal

pub returns-then-s-gt-MAX_TEXT : goal.returns-then-s-gt-MAX_TEXT
unfolding whole_text
returns-then-s-gt-MAX_TEXT c = rw (lt-ltb _ _ c.if-s-gt-MAX_TEXT.true)

pub returns-then-good-s : goal.returns-then-good-s
unfolding whole_text
returns-then-good-s c =
    let s = c.args.s.now in
    rw (
      c.valid_up_to-good.ensures,
      le-ltb text_limit (length s) c.if-s-gt-MAX_TEXT.false,
      lt-ltb (up_to s) (length s)
          (omega (arith, c.valid_up_to-good.ensures)),
    )

pub returns : goal.returns
unfolding whole_text
returns c =
    let s = c.args.s.now in
    rw (le-ltb text_limit (length s) c.if-s-gt-MAX_TEXT.false, le-ltb (up_to s) (length s) (omega (arith, c.valid_up_to-good.ensures)))
