-- No two answers, and no two final contents of the lent table, satisfy the promise of any function of sorting. Assumes nothing.
use Rattle.std.specs.Prelude.{◌≡◌}
use Rattle.std.proofs.Common.{sym, ◌∙◌}
use contract.Lifetimes.{Lfts}
use borrow.Fn.Kinds.{Dens, res_t, ended_of}
use denote.Triple.Clauses.{AtExit}
use Rattle.sorting.proofs.Listing.{sorts-unique}
use Rattle.promises.specs.Decides.{Decides}
use Rattle.sorting.proofs.by_name.Kinds as by_name-kinds
use Rattle.sorting.proofs.by_name.Reads as by_name
use Rattle.sorting.proofs.Rows.sort.Kinds as sort-kinds
use Rattle.sorting.proofs.Rows.sort.Reads as sort
use Rattle.sorting.proofs.Rows.sort_others.Kinds as sort-others-kinds
use Rattle.sorting.proofs.Rows.sort_others.Reads as sort-others

pub by_name-decides : Decides by_name-kinds.ps by_name-kinds.r by_name.Post
by_name-decides κs a x y s t p q = p ∙ sym q

pub sort-decides : Decides sort-kinds.ps sort-kinds.r sort.Post
sort-decides κs a x y s t p q = (sorts-unique p q).0

pub sort-leaves : (κs : Lfts 2) (a : Dens κs sort-kinds.ps) (x y : (res_t sort-kinds.r κs).Denot)
    (s t : AtExit (ended_of 2 sort-kinds.ps sort-kinds.r) κs) → sort.Post κs a x s → sort.Post κs a y t
    → s.1.1.0.now ≡ t.1.1.0.now
sort-leaves κs a x y s t p q = (sorts-unique p q).1

pub sort-others-decides : Decides sort-others-kinds.ps sort-others-kinds.r sort-others.Post
sort-others-decides κs a x y s t p q = (sorts-unique p q).0

pub sort-others-leaves : (κs : Lfts 2) (a : Dens κs sort-others-kinds.ps) (x y : (res_t sort-others-kinds.r κs).Denot)
    (s t : AtExit (ended_of 2 sort-others-kinds.ps sort-others-kinds.r) κs) → sort-others.Post κs a x s → sort-others.Post κs a y t
    → s.1.1.0.now ≡ t.1.1.0.now
sort-others-leaves κs a x y s t p q = (sorts-unique p q).1
