use mathlib.Core.Path.{◌≡◌}
use Prim.Native.Nat.{◌≤◌}
use lib.ListN.{length}
use Rattle.differences.specs.Compared.{given_of}
use Rattle.compat.specs.Keying.{keys_of, table_of}
use Rattle.compat.proofs.keys.fill_keys.Given as goal

abbrev pub invariant-loop-i : goal.invariant-loop-i
invariant-loop-i l = (l.i ≤ l.n) × (length l.keys ≡ length l.initial.keys)
    × (l.keys ≡ table_of (length l.initial.keys) (keys_of l.rows (given_of l.baseline) (given_of l.candidate)) l.i)
