-- `rewrite` meets its contract: what it hands to `print` is what is to be printed. Assumes nothing.
use native.Mathlib.Omega.{arith}
use Rattle.rewritten.specs.Printed.{printed_of}
use Rattle.report.proofs.Printing.{printed}
use Rattle.rewrite.proofs.rewrite.Goals as goal

pub print-requires : goal.print-requires
print-requires g c = printed (printed_of c.args.text.now) _ (c.rewrite_text-n.ensures.prints_2 (omega arith))
