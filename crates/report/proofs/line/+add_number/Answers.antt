-- `add_number` calls itself: the measure is the number, whose tenth is less. Assumes nothing.
use Rattle.std.proofs.Common.{sym}
use Rattle.report.proofs.Lines.{then, same}
use Rattle.report.proofs.Decimals.{one-digit, more-digits}
use Rattle.report.proofs.line.+add_number.Goals as goal

pub returns-then-n-lt10 : goal.returns-then-n-lt10
returns-then-n-lt10 t c = same c.args.l c.add_digit.ensures (sym (one-digit c.args.n c.if-n-lt10.true))

pub returns : goal.returns
returns t c =
    same c.args.l (then c.args.l _ _ c.add_number-front.ensures c.add_digit-2.ensures) (sym (more-digits c.args.n c.if-n-lt10.false))
