-- No two answers, and no two final contents of the two columns, satisfy the promise of any function of requirements. Assumes nothing.
use Rattle.std.specs.Prelude.{◌≡◌}
use Rattle.std.proofs.Common.{sym, ◌∙◌}
use contract.Lifetimes.{Lfts}
use borrow.Fn.Kinds.{Dens, res_t, ended_of}
use denote.Triple.Clauses.{AtExit}
use Rattle.refusal.proofs.Known.{result-known}
use Rattle.promises.specs.Decides.{Decides}
use Rattle.requirements.proofs.module.refuse.Kinds as refuse-kinds
use Rattle.requirements.proofs.module.refuse.Reads as refuse
use Rattle.requirements.proofs.module.requirements_from_module.Kinds as from-module-kinds
use Rattle.requirements.proofs.module.requirements_from_module.Reads as from-module
use Rattle.requirements.proofs.manifest.requirements_from_manifest.Kinds as from-manifest-kinds
use Rattle.requirements.proofs.manifest.requirements_from_manifest.Reads as from-manifest

pub refuse-decides : Decides refuse-kinds.ps refuse-kinds.r refuse.Post
refuse-decides κs a x y s t p q = result-known x y (p.0 ∙ sym q.0)

module _ (κs : Lfts 2) (a : Dens κs refuse-kinds.ps) (x y : (res_t refuse-kinds.r κs).Denot)
    (s t : AtExit (ended_of 2 refuse-kinds.ps refuse-kinds.r) κs) (p : refuse.Post κs a x s) (q : refuse.Post κs a y t) where
  pub refuse-domains : s.1.0.now ≡ t.1.0.now
  refuse-domains = p.1 ∙ sym q.1

  pub refuse-rows : s.1.1.0.now ≡ t.1.1.0.now
  refuse-rows = p.2 ∙ sym q.2

pub from-module-decides : Decides from-module-kinds.ps from-module-kinds.r from-module.Post
from-module-decides κs a x y s t p q = result-known x y (p.answer-is ∙ sym q.answer-is)

module _ (κs : Lfts 4) (a : Dens κs from-module-kinds.ps) (x y : (res_t from-module-kinds.r κs).Denot)
    (s t : AtExit (ended_of 4 from-module-kinds.ps from-module-kinds.r) κs) (p : from-module.Post κs a x s)
    (q : from-module.Post κs a y t) where
  pub from-module-domains : s.1.1.0.now ≡ t.1.1.0.now
  from-module-domains = p.domains-are ∙ sym q.domains-are

  pub from-module-rows : s.1.1.1.0.now ≡ t.1.1.1.0.now
  from-module-rows = p.rows_are ∙ sym q.rows_are

pub from-manifest-decides : Decides from-manifest-kinds.ps from-manifest-kinds.r from-manifest.Post
from-manifest-decides κs a x y s t p q = result-known x y (p.answer-is ∙ sym q.answer-is)

module _ (κs : Lfts 3) (a : Dens κs from-manifest-kinds.ps) (x y : (res_t from-manifest-kinds.r κs).Denot)
    (s t : AtExit (ended_of 3 from-manifest-kinds.ps from-manifest-kinds.r) κs) (p : from-manifest.Post κs a x s)
    (q : from-manifest.Post κs a y t) where
  pub from-manifest-domains : s.1.0.now ≡ t.1.0.now
  from-manifest-domains = p.domains-are ∙ sym q.domains-are

  pub from-manifest-rows : s.1.1.0.now ≡ t.1.1.0.now
  from-manifest-rows = p.rows_are ∙ sym q.rows_are
