-- `Rows::find_place` meets its contract: the binary search, by the order of the rows. Assumes nothing.
use Rattle.std.proofs.Common.{rules, tests}
use Rattle.std.proofs.lemmas.Fn.{always_returns_same}
use Prim.Native.Nat.{ℕ}
use lib.ListN.{take}
use Rattle.sorting.specs.Filling.{order_of}
use Rattle.sorting.proofs.Rowing.{lawful-rows, key-order}
use Rattle.sorting.proofs.Placing.{placed}
use Rattle.sorting.proofs.Rows.find_place.Goals as goal

pub returns : goal.returns
returns c =
    let a = c.args in
    let r = a.self in
    placed (order_of r) (lawful-rows r.first.now r.second.now r.cells.now r.keys) a.x (take a.k a.sorted.now) c.requires.ascends
    c.binary_search_by.result c.binary_search_by.ensures.bound
    (c.binary_search_by.ensures.position (λ (y : ℕ). order_of r y a.x) (always_returns_same _ _ _ (λ b v g k. search (rules, tests, key-order r.first.now r.second.now r.cells.now r.keys))))
