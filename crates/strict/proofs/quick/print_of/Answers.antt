-- `strict::quick::print_of` meets its contract. Assumes nothing.
use Rattle.strict.proofs.Newness.{least, print-short, print-long}
use Rattle.strict.proofs.quick.print_of.Goals as goal

pub returns-then-n-lt-WORD : goal.returns-then-n-lt-WORD
returns-then-n-lt-WORD c = print-short _ _ c.if-n-lt-WORD.true c.mix-all.ensures.0 c.stir.ensures

pub returns : goal.returns
returns c =
    print-long _ _ c.if-n-lt-WORD.false (least _ _ _ c.min.ensures) c.word-one.ensures c.word-two.ensures
    c.word-three.ensures c.stir-2.ensures
