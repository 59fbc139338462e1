-- `lines::put_number` meets its contract. Assumes nothing.
use native.Mathlib.Omega.{arith}
use Rattle.report.proofs.Short.{decimal-short}
use Rattle.report.proofs.Telling.{line-text}
use Rattle.report.specs.Decimal.{decimal_of}
use Rattle.reviewed.proofs.Telling.{added-same}
use Rattle.reviewed.proofs.lines.put_number.Goals as goal

pub returns-clause-added : goal.returns-clause-added
returns-clause-added c =
    let n = c.args.n in
    added-same (line-text (decimal_of n) (omega (arith, decimal-short n (omega arith))) c.number_text.ensures) c.put_line.ensures.added
