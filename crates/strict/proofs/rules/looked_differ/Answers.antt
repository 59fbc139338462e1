-- `strict::rules::looked_differ` meets its contract. Assumes nothing.
use mathlib.Core.Path.{sym}
use Rattle.strict.proofs.rules.looked_differ.Goals as goal

pub returns-then-surely_differ : goal.returns-then-surely_differ
returns-then-surely_differ c = sym (c.surely_differ.ensures c.if-surely_differ.true)

pub returns-then-surely_differ-2 : goal.returns-then-surely_differ-2
returns-then-surely_differ-2 c = sym (c.surely_differ-2.ensures c.if-surely_differ-2.true)
