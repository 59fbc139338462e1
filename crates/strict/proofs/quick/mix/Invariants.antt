use mathlib.Core.Path.{◌≡◌}
use Prim.Native.Nat.{◌<◌}
use lib.ListN.{drop}
use Rattle.strict.specs.Quick.{mixed}
use Rattle.strict.proofs.quick.mix.Given as goal

abbrev pub invariant-loop-byte : goal.invariant-loop-byte
invariant-loop-byte l = (l.print < 4294967296) × (mixed l.print (drop l.byte-index l.bytes) ≡ mixed l.start l.bytes)
