use mathlib.Core.Path.{◌≡◌}
use Prim.Native.Nat.{◌-◌}
use lib.ListN.{get_or}
use Rattle.differences.specs.Numbers.{some_from}
use Rattle.keyed.specs.Rows.{meets}
use Rattle.keyed.proofs.rows.KeyRows.seek.Given as goal

abbrev pub invariant-search : goal.invariant-search
invariant-search l = (l.print ≡ get_or l.prints l.i 0)
    × (some_from (meets l.self l.i) l.j (l.span.end - l.j)
    ≡ some_from (meets l.self l.i) l.span.start (l.span.end - l.span.start))

abbrev pub decreases-search : goal.decreases-search
decreases-search l = l.span.end - l.j
