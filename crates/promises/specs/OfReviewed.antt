-- No two answers, and no two contents of the buffer, satisfy the promises of `review_text` and `unread_text`. Assumes nothing.
use Rattle.std.specs.Prelude.{◌≡◌}
use contract.Lifetimes.{Lfts}
use borrow.Fn.Kinds.{Dens, res_t, ended_of}
use denote.Triple.Clauses.{AtExit}
use Rattle.report.proofs.Printing.{printed-once}
use Rattle.promises.specs.Decides.{Decides}
use Rattle.reviewed.proofs.review_text.Kinds as review-text-kinds
use Rattle.reviewed.proofs.review_text.Reads as review-text
use Rattle.reviewed.proofs.unread_text.Kinds as unread-text-kinds
use Rattle.reviewed.proofs.unread_text.Reads as unread-text

pub review-text-decides : Decides review-text-kinds.ps review-text-kinds.r review-text.Post
review-text-decides κs a x y s t p q = (printed-once p q).0

pub review-text-leaves : (κs : Lfts 6) (a : Dens κs review-text-kinds.ps) (x y : (res_t review-text-kinds.r κs).Denot)
    (s t : AtExit (ended_of 6 review-text-kinds.ps review-text-kinds.r) κs) → review-text.Post κs a x s → review-text.Post κs a y t
    → s.1.1.1.1.1.1.0.now ≡ t.1.1.1.1.1.1.0.now
review-text-leaves κs a x y s t p q = (printed-once p q).1

pub unread-text-decides : Decides unread-text-kinds.ps unread-text-kinds.r unread-text.Post
unread-text-decides κs a x y s t p q = (printed-once p q).0

pub unread-text-leaves : (κs : Lfts 3) (a : Dens κs unread-text-kinds.ps) (x y : (res_t unread-text-kinds.r κs).Denot)
    (s t : AtExit (ended_of 3 unread-text-kinds.ps unread-text-kinds.r) κs) → unread-text.Post κs a x s → unread-text.Post κs a y t
    → s.1.1.0.now ≡ t.1.1.0.now
unread-text-leaves κs a x y s t p q = (printed-once p q).1
