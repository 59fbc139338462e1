-- `Rows::is_marked` meets its contract. Assumes nothing.
use mathlib.Core.Path.{ap}
use Prim.Native.Nat.{ℕ}
use lib.Dec.{eqb}
use Rattle.sorting.specs.Keys.{row_marked}
use Rattle.sorting.proofs.Rows.is_marked.Goals as goal

pub returns : goal.returns
unfolding row_marked
returns c = ap (λ (x : ℕ). eqb x c.args.self.keys.value) c.cell.ensures
