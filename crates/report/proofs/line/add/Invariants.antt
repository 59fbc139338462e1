use mathlib.Core.Path.{◌≡◌}
use lib.ListN.{drop}
use Rattle.report.specs.Line.{added}
use Rattle.report.proofs.line.add.Given as goal

abbrev pub invariant-loop-b : goal.invariant-loop-b
invariant-loop-b l = added l.initial.line l.bytes ≡ added l.line (drop l.b-index l.bytes)
