-- `compat::listing::lay_exports` meets its contract: the rows below j are there. Assumes nothing.
use mathlib.Core.Path.{refl}
use borrow.Author.Rules.{rules}
use Rattle.table.specs.Shape.{width}
use Rattle.compat.specs.Listing.{place_cells}
use Rattle.keyed.proofs.Filling.{no_rows, one-row, filled-all}
use Rattle.compat.proofs.Laying.{place-cells}
use Rattle.compat.proofs.listing.lay_exports.Goals as goal

pub loop-j-init : goal.loop-j-init
loop-j-init c = (refl, no_rows (place_cells c.args.nb) _ _ c.requires.0)

pub loop-j-preserved : goal.loop-j-preserved
loop-j-preserved c = (
  search rules,
  one-row (place_cells c.args.nb) _ _ (width 8) (λ i. refl) _ _ c.loop-j-test.true c.requires.1 c.loop-j.invariant.1
      (place-cells _ _ c.place_of-place.ensures c.change_number.ensures) c.put_row.ensures,
)

pub returns : goal.returns
returns c = filled-all _ _ _ _ c.loop-j.auto.j-end c.loop-j-test.false c.loop-j.invariant.1
