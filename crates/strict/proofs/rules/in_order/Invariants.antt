use mathlib.Core.Path.{◌≡◌}
use Rattle.strict.specs.Rules.{ordered, ordered_from, column_of}
use Rattle.table.specs.Shape.{width}
use lib.ListN.{drop}
use Rattle.strict.proofs.rules.in_order.Given as goal

abbrev pub invariant-loop-i : goal.invariant-loop-i
invariant-loop-i l = ordered_from l.last (drop l.i (column_of l.sections (width 1) 0 l.n)) ≡ ordered (column_of l.sections (width 1) 0 l.n)
