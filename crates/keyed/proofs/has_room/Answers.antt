-- `keyed::has_room` meets its contract. Assumes nothing.
use native.Mathlib.Omega.{arith}
use Rattle.std.proofs.lemmas.Grind.{common_steps}
use Rattle.keyed.specs.Keying.{holds_all}
use Rattle.keyed.proofs.Sameness.{no-ranks}
use Rattle.keyed.proofs.has_room.Goals as goal

pub returns-then-n-lost : goal.returns-then-n-lost
unfolding holds_all
returns-then-n-lost c = grind (arith, common_steps)

pub returns-else-n-lost : goal.returns-else-n-lost
unfolding holds_all
returns-else-n-lost c = grind (arith, common_steps)

pub returns-in-None : goal.returns-in-None
returns-in-None c = no-ranks _ _ _ _ _ (omega (arith, c.in-None.ensures))
