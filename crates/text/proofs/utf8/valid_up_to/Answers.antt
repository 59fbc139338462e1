-- `valid_up_to` meets its contract: what is left is as long well formed as the whole. Assumes nothing.
use native.Mathlib.Omega.{arith}
use Rattle.text.specs.Utf8.{seq_len, up_to}
use Rattle.text.proofs.Laws.{scan-end}
use Rattle.text.proofs.utf8.valid_up_to.Goals as goal

pub loop-at-init : goal.loop-at-init
unfolding up_to
loop-at-init c = omega arith

pub returns : goal.returns
returns c = omega (arith, scan-end seq_len c.args.s.now c.loop-at.at (omega arith))
