-- No two answers, and no two contents of the buffer, satisfy the promise of `rewrite_text`. Assumes nothing.
use Rattle.std.specs.Prelude.{◌≡◌}
use contract.Lifetimes.{Lfts}
use borrow.Fn.Kinds.{Dens, res_t, ended_of}
use denote.Triple.Clauses.{AtExit}
use Rattle.report.proofs.Printing.{printed-once}
use Rattle.promises.specs.Decides.{Decides}
use Rattle.rewritten.proofs.rewrite_text.Kinds as rewrite-text-kinds
use Rattle.rewritten.proofs.rewrite_text.Reads as rewrite-text

pub rewrite-text-decides : Decides rewrite-text-kinds.ps rewrite-text-kinds.r rewrite-text.Post
rewrite-text-decides κs a x y s t p q = (printed-once p.0 q.0).0

pub rewrite-text-leaves : (κs : Lfts 2) (a : Dens κs rewrite-text-kinds.ps) (x y : (res_t rewrite-text-kinds.r κs).Denot)
    (s t : AtExit (ended_of 2 rewrite-text-kinds.ps rewrite-text-kinds.r) κs) → rewrite-text.Post κs a x s → rewrite-text.Post κs a y t
    → s.1.0.now ≡ t.1.0.now
rewrite-text-leaves κs a x y s t p q = (printed-once p.0 q.0).1
