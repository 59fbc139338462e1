-- No two answers, and no two final contents of the two tables, satisfy the promise of `read_manifest`. Assumes nothing.
use Rattle.std.specs.Prelude.{◌≡◌, Result}
use Rattle.std.proofs.Common.{sym, ◌∙◌}
use contract.Lifetimes.{Lfts}
use borrow.Fn.Kinds.{Dens, res_t, ended_of}
use denote.Triple.Clauses.{AtExit}
use Rattle.refusal.specs.declared.Refusal.{Refusal}
use Rattle.refusal.proofs.Known.{result-known}
use Rattle.wit.specs.Manifest.{said_manifest}
use Rattle.wit.specs.declared.Manifest.{Manifest}
use Rattle.wit.proofs.read_manifest.Kinds as read-manifest-kinds
use Rattle.wit.proofs.read_manifest.Reads as read-manifest
use Rattle.promises.specs.Decides.{Decides}

-- an answer is known by its number, place and values
pub manifest-known : (a b : Result Manifest Refusal) → said_manifest a ≡ said_manifest b → a ≡ b
manifest-known = result-known

pub read-manifest-decides : Decides read-manifest-kinds.ps read-manifest-kinds.r read-manifest.Post
read-manifest-decides κs a x y s t p q = manifest-known x y (p.answer-is ∙ sym q.answer-is)

-- every cell of the tables
module _ (κs : Lfts 3) (a : Dens κs read-manifest-kinds.ps) (x y : (res_t read-manifest-kinds.r κs).Denot)
    (s t : AtExit (ended_of 3 read-manifest-kinds.ps read-manifest-kinds.r) κs) (p : read-manifest.Post κs a x s)
    (q : read-manifest.Post κs a y t) where
  pub worlds-left : s.1.0.now ≡ t.1.0.now
  worlds-left = p.tables-are.worlds-are ∙ sym q.tables-are.worlds-are

  pub references-left : s.1.1.0.now ≡ t.1.1.0.now
  references-left = p.tables-are.references-are ∙ sym q.tables-are.references-are
