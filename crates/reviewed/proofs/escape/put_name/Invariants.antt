use mathlib.Core.Path.{◌≡◌}
use lib.ListN.{take}
use Rattle.output.specs.Writing.{Added}
use Rattle.reviewed.specs.Escape.{escaped}
use Rattle.reviewed.proofs.escape.put_name.Given as goal

abbrev pub invariant-loop-b : goal.invariant-loop-b
invariant-loop-b l = (l.out.out.ghost_name ≡ l.initial.out.out.ghost_name) × Added l.initial.out (escaped (take l.b-index l.name)) l.out
