-- `escape::is_plain` meets its contract. Assumes nothing.
use native.Mathlib.Omega.{arith}
use borrow.Author.Rules.{rules}
use Rattle.reviewed.proofs.Escapes.{plain-low, plain-high, plain-marked, plain-mid}
use Rattle.reviewed.proofs.escape.is_plain.Goals as goal

pub returns-in-34 : goal.returns-in-34
returns-in-34 c = plain-marked c.args.b c.in-34.is

pub returns-in-32-to-126 : goal.returns-in-32-to-126
returns-in-32-to-126 c = plain-mid c.args.b (omega arith) (omega arith) (search rules)

pub returns-in_default : goal.returns-in_default
returns-in_default c = plain-low c.args.b (omega arith)

pub returns-in_default-2 : goal.returns-in_default-2
returns-in_default-2 c = plain-high c.args.b (omega arith)
