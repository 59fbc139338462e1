-- `table::capacity` meets its contract. Assumes nothing.
use mathlib.Core.Path.{ap, sym, ◌∙◌}
use Prim.Native.Nat.{ℕ}
use Rattle.table.specs.Table.{capacity_of}
use Rattle.table.proofs.Cells.{capacity-none}
use Rattle.table.proofs.capacity.Goals as goal

pub returns-then-width-eq0 : goal.returns-then-width-eq0
returns-then-width-eq0 c = sym (ap (λ (w : ℕ). capacity_of c.args.cells w c.args.limit) c.if-width-eq0.true ∙ capacity-none _ _)

pub returns : goal.returns
unfolding capacity_of
returns c = c.min.ensures
