use mathlib.Core.Path.{◌≡◌}
use Prim.Native.Nat.{◌<◌}
use lib.ListN.{drop}
use Rattle.keyed.specs.Quick.{mixed_print}
use Rattle.keyed.proofs.quick.mix.Given as goal

abbrev pub invariant-loop-byte : goal.invariant-loop-byte
invariant-loop-byte l = (l.print < 4294967296) × (mixed_print l.print (drop l.byte-index l.bytes) ≡ mixed_print l.start l.bytes)
