-- `first_known` meets its contract. Assumes nothing.
use mathlib.Core.Path.{refl}
use Rattle.wit.specs.Manifest.{start, known_of}
use Rattle.wit.proofs.rows.first_known.Goals as goal

pub returns : goal.returns
unfolding start known_of
returns c = refl
