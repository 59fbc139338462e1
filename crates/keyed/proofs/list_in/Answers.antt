-- `keyed::list_in` meets its contract. Assumes nothing.
use mathlib.Core.Path.{refl, sym, ◌∙◌}
use Prim.Native.Nat.{◌+◌, ◌<◌}
use native.Mathlib.Omega.{arith}
use lib.ListN.{length}
use Rattle.keyed.proofs.Listing.{room_as, room-ranks, room-lost, room-list, lists-none}
use Rattle.keyed.proofs.Answering.{whole-quick, whole-slow}
use Rattle.keyed.proofs.list_in.Goals as goal

pub returns-then-not-has_room : goal.returns-then-not-has_room
returns-then-not-has_room c = lists-none (sym c.has_room.ensures ∙ c.if-not-has_room.true) c.clear.ensures

pub overflow_add-n : goal.overflow_add-n
overflow_add-n c =
    let short : length c.args.ranks.now < 18446744073709551616 = omega arith in
    omega (arith, short, room-ranks _ _ _ _ c.has_room.ensures c.if-not-has_room.false)

pub try_quick-found-requires : goal.try_quick-found-requires
try_quick-found-requires c =
    let y = c.if-not-has_room.false in
    (omega arith, room-ranks _ _ _ _ c.has_room.ensures y, room-lost _ _ _ _ c.has_room.ensures y)

pub returns-then-found : goal.returns-then-found
returns-then-found c =
    let a = c.args in
    let y = c.if-not-has_room.false in
    whole-quick a.first.now a.second.now a.keys.now _ a.nb (a.nb + a.nc) a.every
    (c.try_quick-found.ensures.done c.if-found.true) (omega arith) c.columns.ensures (rw c.by.ensures at c.sort.ensures)
    (room-list _ _ _ _ c.has_room.ensures y) (sym c.has_room.ensures ∙ y)

pub returns : goal.returns
returns c =
    let a = c.args in
    whole-slow a.first.now a.second.now a.nb (a.nb + a.nc) a.every (c.try_quick-found.ensures.kept c.if-found.false)
    (room_as _ refl c.try_quick-found.auto.prints c.try_quick-found.auto.found refl) c.list_by_rank.ensures
