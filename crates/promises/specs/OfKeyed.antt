-- No two answers, and no two final contents of a lent table, satisfy the promise of `list_missing`. Assumes nothing.
use Rattle.std.specs.Prelude.{◌≡◌}
use Rattle.std.proofs.Common.{sym, ◌∙◌}
use contract.Lifetimes.{Lfts}
use borrow.Fn.Kinds.{Dens, res_t, ended_of}
use denote.Triple.Clauses.{AtExit}
use Rattle.promises.specs.Decides.{Decides}
use Rattle.keyed.proofs.list_missing.Kinds as list-missing-kinds
use Rattle.keyed.proofs.list_missing.Reads as list-missing

pub list-missing-decides : Decides list-missing-kinds.ps list-missing-kinds.r list-missing.Post
list-missing-decides κs a x y s t p q = p.0.answer-is ∙ sym q.0.answer-is

module _ (κs : Lfts 5) (a : Dens κs list-missing-kinds.ps) (x y : (res_t list-missing-kinds.r κs).Denot)
    (s t : AtExit (ended_of 5 list-missing-kinds.ps list-missing-kinds.r) κs) (p : list-missing.Post κs a x s)
    (q : list-missing.Post κs a y t) where
  pub numbers-left : s.1.1.1.1.1.1.1.1.0.now ≡ t.1.1.1.1.1.1.1.1.0.now
  numbers-left = p.0.table_is ∙ sym q.0.table_is

  pub keys-left : s.1.1.0.now ≡ t.1.1.0.now
  keys-left = p.1 ∙ sym q.1

  pub ranks-left : s.1.1.1.1.1.1.0.now ≡ t.1.1.1.1.1.1.0.now
  ranks-left = p.2 ∙ sym q.2

  pub lost-left : s.1.1.1.1.1.1.1.0.now ≡ t.1.1.1.1.1.1.1.0.now
  lost-left = p.3 ∙ sym q.3
