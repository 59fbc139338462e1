-- `keyed::quick::name_print` meets its contract. Assumes nothing.
use Rattle.keyed.proofs.Printing.{print-short, print-long}
use Rattle.keyed.proofs.quick.name_print.Goals as goal

pub returns-then-n-lt-EDGE : goal.returns-then-n-lt-EDGE
returns-then-n-lt-EDGE c = (print-short _ c.if-n-lt-EDGE.true c.mix.ensures.0, c.mix.ensures.1)

pub returns : goal.returns
returns c = (
  print-long _ c.if-n-lt-EDGE.false c.range.ensures.0 c.range-2.ensures.0 c.mix-head.ensures.0 c.mix-2.ensures.0,
  c.mix-2.ensures.1,
)
