-- No two answers, and no two final contents of the four tables, satisfy the promise of `read_strict`; no two answers that of
-- `test_strict`. Assumes nothing.
use Rattle.std.specs.Prelude.{◌≡◌}
use Rattle.std.proofs.Common.{sym, ◌∙◌}
use contract.Lifetimes.{Lfts}
use borrow.Fn.Kinds.{Dens, res_t, ended_of}
use denote.Triple.Clauses.{AtExit}
use Rattle.refusal.proofs.Known.{result-known}
use Rattle.strict.proofs.read_strict.Kinds as read-strict-kinds
use Rattle.strict.proofs.read_strict.Reads as read-strict
use Rattle.strict.proofs.test_strict.Kinds as test-strict-kinds
use Rattle.strict.proofs.test_strict.Reads as test-strict
use Rattle.promises.specs.Decides.{Decides}
use Rattle.promises.specs.OfWasm.{module-known}

pub read-strict-decides : Decides read-strict-kinds.ps read-strict-kinds.r read-strict.Post
read-strict-decides κs a x y s t p q = module-known x y (p.1.answer-is ∙ sym q.1.answer-is)

pub test-strict-decides : Decides test-strict-kinds.ps test-strict-kinds.r test-strict.Post
test-strict-decides κs a x y s t p q = result-known x y (p ∙ sym q)

-- every cell of the tables, and that each is still the slice that was lent
module _ (κs : Lfts 3) (a : Dens κs read-strict-kinds.ps) (x y : (res_t read-strict-kinds.r κs).Denot)
    (s t : AtExit (ended_of 3 read-strict-kinds.ps read-strict-kinds.r) κs)
    (p : read-strict.Post κs a x s) (q : read-strict.Post κs a y t) where
  pub strict-sections-left : (s.1.0.now.sections.now ≡ t.1.0.now.sections.now)
      × (s.1.0.now.sections.ghost_name ≡ t.1.0.now.sections.ghost_name)
  strict-sections-left = (p.1.tables-are.sections-are ∙ sym q.1.tables-are.sections-are, p.0.sections-same ∙ sym q.0.sections-same)

  pub strict-imports-left : (s.1.0.now.imports.now ≡ t.1.0.now.imports.now)
      × (s.1.0.now.imports.ghost_name ≡ t.1.0.now.imports.ghost_name)
  strict-imports-left = (p.1.tables-are.imports-are ∙ sym q.1.tables-are.imports-are, p.0.imports-same ∙ sym q.0.imports-same)

  pub strict-exports-left : (s.1.0.now.exports.now ≡ t.1.0.now.exports.now)
      × (s.1.0.now.exports.ghost_name ≡ t.1.0.now.exports.ghost_name)
  strict-exports-left = (p.1.tables-are.exports-are ∙ sym q.1.tables-are.exports-are, p.0.exports-same ∙ sym q.0.exports-same)

  pub strict-names-left : (s.1.0.now.names.now ≡ t.1.0.now.names.now)
      × (s.1.0.now.names.ghost_name ≡ t.1.0.now.names.ghost_name)
  strict-names-left = (p.1.tables-are.names-are ∙ sym q.1.tables-are.names-are, p.0.names-same ∙ sym q.0.names-same)
