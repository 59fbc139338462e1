-- `put_no_room` meets its contract. Assumes nothing.
use mathlib.Core.Path.{refl}
use native.Mathlib.Omega.{arith}
use Rattle.report.proofs.Printing.{no_room, all-put}
use Rattle.reviewed.specs.Words.{no_room_w}
use Rattle.reviewed.proofs.put_no_room.Goals as goal

pub returns-then-out-lt38 : goal.returns-then-out-lt38
returns-then-out-lt38 c = no_room no_room_w _ refl c.if-out-lt38.true

pub returns : goal.returns
returns c = all-put no_room_w _ refl (omega arith) c.if-out-lt38.false c.put.ensures
