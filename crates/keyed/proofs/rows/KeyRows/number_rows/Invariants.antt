use mathlib.Core.Path.{◌≡◌}
use Prim.Native.Nat.{◌+◌, ◌≤◌}
use lib.ListN.{length, drop}
use Rattle.keyed.specs.Keying.{ranked_from, ranked}
use Rattle.keyed.specs.Rows.{one_key}
use Rattle.keyed.proofs.rows.KeyRows.number_rows.Given as goal

abbrev pub invariant-loop-i : goal.invariant-loop-i
invariant-loop-i l = (l.rank ≤ l.i-index + 1) × (length l.ranks ≡ length l.initial.ranks)
    × (ranked_from (one_key l.self) l.last l.rank (drop l.i-index l.list) l.ranks
    ≡ ranked (one_key l.self) l.list l.initial.ranks)
