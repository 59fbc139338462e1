-- No two answers, and no two final contents of the four lent tables, satisfy the promise of `read_module`; no two contents that of `clear`.
-- Assumes nothing.
use Rattle.std.specs.Prelude.{◌≡◌, Result}
use Rattle.std.proofs.Common.{sym, ◌∙◌}
use contract.Lifetimes.{Lfts}
use borrow.Fn.Kinds.{Dens, res_t, ended_of}
use denote.Triple.Clauses.{AtExit}
use Rattle.refusal.specs.declared.Refusal.{Refusal}
use Rattle.refusal.proofs.Known.{result-known}
use Rattle.wasm.specs.Module.{said_module}
use Rattle.wasm.specs.declared.Module.{Module}
use Rattle.wasm.proofs.LentTables.clear.Kinds as clear-kinds
use Rattle.wasm.proofs.LentTables.clear.Reads as clear
use Rattle.wasm.proofs.read_module.Kinds as read-module-kinds
use Rattle.wasm.proofs.read_module.Reads as read_module
use Rattle.promises.specs.Decides.{Decides}

-- every cell of tables that are cleared, and that each is still the slice that was lent
module _ (κs : Lfts 2) (a : Dens κs clear-kinds.ps) (x y : (res_t clear-kinds.r κs).Denot)
    (s t : AtExit (ended_of 2 clear-kinds.ps clear-kinds.r) κs) (p : clear.Post κs a x s) (q : clear.Post κs a y t) where
  pub sections-cleared : (s.0.now.sections.now ≡ t.0.now.sections.now)
      × (s.0.now.sections.ghost_name ≡ t.0.now.sections.ghost_name)
  sections-cleared = (p.1.sections-are ∙ sym q.1.sections-are, p.0.sections-same ∙ sym q.0.sections-same)

  pub imports-cleared : (s.0.now.imports.now ≡ t.0.now.imports.now)
      × (s.0.now.imports.ghost_name ≡ t.0.now.imports.ghost_name)
  imports-cleared = (p.1.imports-are ∙ sym q.1.imports-are, p.0.imports-same ∙ sym q.0.imports-same)

  pub exports-cleared : (s.0.now.exports.now ≡ t.0.now.exports.now)
      × (s.0.now.exports.ghost_name ≡ t.0.now.exports.ghost_name)
  exports-cleared = (p.1.exports-are ∙ sym q.1.exports-are, p.0.exports-same ∙ sym q.0.exports-same)

  pub names-cleared : (s.0.now.names.now ≡ t.0.now.names.now)
      × (s.0.now.names.ghost_name ≡ t.0.now.names.ghost_name)
  names-cleared = (p.1.names-are ∙ sym q.1.names-are, p.0.names-same ∙ sym q.0.names-same)

-- an answer is known by its number, place and values
pub module-known : (a b : Result Module Refusal) → said_module a ≡ said_module b → a ≡ b
module-known = result-known

pub read-module-decides : Decides read-module-kinds.ps read-module-kinds.r read_module.Post
read-module-decides κs a x y s t p q = module-known x y (p.1.answer-is ∙ sym q.1.answer-is)

-- every cell of the tables, and that each is still the slice that was lent
module _ (κs : Lfts 3) (a : Dens κs read-module-kinds.ps) (x y : (res_t read-module-kinds.r κs).Denot)
    (s t : AtExit (ended_of 3 read-module-kinds.ps read-module-kinds.r) κs)
    (p : read_module.Post κs a x s) (q : read_module.Post κs a y t) where
  pub sections-left : (s.1.0.now.sections.now ≡ t.1.0.now.sections.now)
      × (s.1.0.now.sections.ghost_name ≡ t.1.0.now.sections.ghost_name)
  sections-left = (p.1.tables-are.sections-are ∙ sym q.1.tables-are.sections-are, p.0.sections-same ∙ sym q.0.sections-same)

  pub imports-left : (s.1.0.now.imports.now ≡ t.1.0.now.imports.now)
      × (s.1.0.now.imports.ghost_name ≡ t.1.0.now.imports.ghost_name)
  imports-left = (p.1.tables-are.imports-are ∙ sym q.1.tables-are.imports-are, p.0.imports-same ∙ sym q.0.imports-same)

  pub exports-left : (s.1.0.now.exports.now ≡ t.1.0.now.exports.now)
      × (s.1.0.now.exports.ghost_name ≡ t.1.0.now.exports.ghost_name)
  exports-left = (p.1.tables-are.exports-are ∙ sym q.1.tables-are.exports-are, p.0.exports-same ∙ sym q.0.exports-same)

  pub names-left : (s.1.0.now.names.now ≡ t.1.0.now.names.now)
      × (s.1.0.now.names.ghost_name ≡ t.1.0.now.names.ghost_name)
  names-left = (p.1.tables-are.names-are ∙ sym q.1.tables-are.names-are, p.0.names-same ∙ sym q.0.names-same)
