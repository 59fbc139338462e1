-- `KeyRows::list_by_rank` meets its contract. Assumes nothing.
use mathlib.Core.Path.{sym, ◌∙◌}
use Prim.Native.Nat.{◌<◌}
use native.Mathlib.Omega.{arith}
use lib.ListN.{length}
use Rattle.keyed.proofs.Listing.{room_as, room-ranks, room-lost, room-list, lists-whole, lists-none, cleared-length, cleared}
use Rattle.keyed.proofs.rows.KeyRows.list_by_rank.Goals as goal

pub returns-then-not-has_room : goal.returns-then-not-has_room
returns-then-not-has_room c =
    let room =
    room_as _ c.has_room.ensures (cleared-length c.clear.ensures) (cleared-length c.clear-2.ensures) (cleared-length c.clear-3.ensures) in
    lists-none (sym (room) ∙ c.if-not-has_room.true) c.clear-3.ensures

pub overflow_add-nb : goal.overflow_add-nb
overflow_add-nb c =
    let short : length c.args.ranks.now < 18446744073709551616 = omega arith in
    let room =
    room_as _ c.has_room.ensures (cleared-length c.clear.ensures) (cleared-length c.clear-2.ensures) (cleared-length c.clear-3.ensures) in
    omega (arith, short, room-ranks _ _ _ _ (room) c.if-not-has_room.false)

pub sort_missing-requires : goal.sort_missing-requires
sort_missing-requires c =
    let r = room-ranks _ _ _ _ c.has_room.ensures c.if-not-has_room.false in
    let l = room-lost _ _ _ _ c.has_room.ensures c.if-not-has_room.false in
    let n = room-list _ _ _ _ c.has_room.ensures c.if-not-has_room.false in
    record {
      nb_le_n = (omega arith, r, l, n);
      ranks_value = (cleared _ c.clear.ensures, cleared _ c.clear-2.ensures);
    }

pub returns : goal.returns
returns c =
    let room =
    room_as _ c.has_room.ensures (cleared-length c.clear.ensures) (cleared-length c.clear-2.ensures) (cleared-length c.clear-3.ensures) in
    lists-whole (sym (room) ∙ c.if-not-has_room.false) (cleared-length c.clear-3.ensures) c.sort_missing.ensures
