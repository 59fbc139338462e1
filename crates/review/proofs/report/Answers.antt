-- `report` meets its contract. Assumes nothing.
use borrow.Author.Rules.{rules}
use Rattle.reviewed.proofs.Rooms.{room-printed}
use Rattle.review.proofs.report.Goals as goal

pub print_report-requires : goal.print_report-requires
print_report-requires g c = room-printed 1310720 _ _ c.review_text-n.ensures (search rules)
