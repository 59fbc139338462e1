-- `keyed::quick::stir` meets its contract. Assumes nothing.
use native.Mathlib.Omega.{arith}
use Rattle.keyed.proofs.Printing.{stir-is}
use Rattle.keyed.proofs.quick.stir.Goals as goal

pub returns : goal.returns
returns c = (stir-is _ _, omega arith)
