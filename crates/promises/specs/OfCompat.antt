-- No two answers, and no two final contents of tables 8 and 9, satisfy the promise of `compare_modules`. Assumes nothing.
use Rattle.std.specs.Prelude.{◌≡◌, refl, Result, Ok, Err}
use Rattle.std.proofs.Common.{sym, ◌∙◌, ap}
use contract.Lifetimes.{Lfts}
use borrow.Fn.Kinds.{Dens, res_t, ended_of}
use denote.Triple.Clauses.{AtExit}
use Rattle.refusal.specs.Said.{Said, accepted, refused}
use Rattle.refusal.specs.declared.Refusal.{Refusal}
use Rattle.refusal.proofs.Known.{refusal_of, known, taken_back}
use Rattle.differences.specs.Compared.{Verdict}
use Rattle.compat.specs.Answer.{said_compared}
use Rattle.compat.specs.declared.Lists.{Lists}
use Rattle.compat.proofs.compare_modules.Kinds as compare-modules-kinds
use Rattle.compat.proofs.compare_modules.Reads as compare-modules
use Rattle.promises.specs.Decides.{Decides}

-- an answer is known by its number, place and values
pub compared-known : (a b : Result Lists Refusal) → said_compared a ≡ said_compared b → a ≡ b
compared-known = taken_back back is where
  back : Said Verdict → Result Lists Refusal
  back (accepted v) = Ok (record { exports = v.exports; capabilities = v.capabilities; compatible = v.compatible })
  back (refused n p) = Err (refusal_of n p)

  is : (a : Result Lists Refusal) → back (said_compared a) ≡ a
  is (Ok l) = refl
  is (Err w) = ap Err (known w)

pub compare-modules-decides : Decides compare-modules-kinds.ps compare-modules-kinds.r compare-modules.Post
compare-modules-decides κs a x y s t p q = compared-known x y (p.answer-is ∙ sym q.answer-is)

-- every cell of the tables
module _ (κs : Lfts 6) (a : Dens κs compare-modules-kinds.ps) (x y : (res_t compare-modules-kinds.r κs).Denot)
    (s t : AtExit (ended_of 6 compare-modules-kinds.ps compare-modules-kinds.r) κs) (p : compare-modules.Post κs a x s)
    (q : compare-modules.Post κs a y t) where
  pub exports-left : s.1.1.0.now ≡ t.1.1.0.now
  exports-left = p.table8-is ∙ sym q.table8-is

  pub capabilities-left : s.1.1.1.0.now ≡ t.1.1.1.0.now
  capabilities-left = p.table9-is ∙ sym q.table9-is
