-- `Rows::insert` meets its contract. Assumes nothing.
use mathlib.Core.Path.{subst}
use lib.ListN.{take}
use Rattle.sorting.specs.Filling.{order_of, Placed}
use Rattle.sorting.proofs.Listing.{filled-over}
use Rattle.sorting.proofs.Rows.insert.Goals as goal

pub returns-in-Ok : goal.returns-in-Ok
returns-in-Ok c =
    let a = c.args in
    let placed_in = Placed (order_of a.self) a.x (take a.k a.sorted.now) in
    filled-over _ a.x a.sorted.now a.k c.in-Ok.p c.requires.room (subst placed_in c.in-Ok.is c.find_place.ensures)
