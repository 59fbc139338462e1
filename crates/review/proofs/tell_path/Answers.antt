-- `tell_path` meets its contract. Assumes nothing.
use borrow.Author.Rules.{rules}
use Rattle.reviewed.proofs.Rooms.{room-printed}
use Rattle.review.proofs.tell_path.Goals as goal

pub print_unread-requires : goal.print_unread-requires
print_unread-requires g c = room-printed 1310720 _ _ c.unread_text-n.ensures (search rules)
