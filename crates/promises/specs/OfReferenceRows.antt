-- No two answers, and no two final contents of the lent table, satisfy the promise of any function of references. Assumes nothing.
use Rattle.std.specs.Prelude.{◌≡◌}
use Rattle.std.proofs.Common.{sym, ◌∙◌}
use contract.Lifetimes.{Lfts}
use borrow.Fn.Kinds.{Dens, res_t, ended_of}
use denote.Triple.Clauses.{AtExit}
use Rattle.refusal.proofs.Known.{result-known}
use Rattle.promises.specs.Decides.{Decides}
use Rattle.reference_rows.proofs.check_manifest.Kinds as check-manifest-kinds
use Rattle.reference_rows.proofs.check_manifest.Reads as check-manifest
use Rattle.reference_rows.proofs.all_imports.Kinds as all-imports-kinds
use Rattle.reference_rows.proofs.all_imports.Reads as all-imports
use Rattle.reference_rows.proofs.all_exports.Kinds as all-exports-kinds
use Rattle.reference_rows.proofs.all_exports.Reads as all-exports

pub check-manifest-decides : Decides check-manifest-kinds.ps check-manifest-kinds.r check-manifest.Post
check-manifest-decides κs a x y s t p q = result-known x y (p ∙ sym q)

pub all-imports-decides : Decides all-imports-kinds.ps all-imports-kinds.r all-imports.Post
all-imports-decides κs a x y s t p q = result-known x y (p.answer-is ∙ sym q.answer-is)

pub all-imports-leaves : (κs : Lfts 2) (a : Dens κs all-imports-kinds.ps) (x y : (res_t all-imports-kinds.r κs).Denot)
    (s t : AtExit (ended_of 2 all-imports-kinds.ps all-imports-kinds.r) κs)
    → all-imports.Post κs a x s → all-imports.Post κs a y t → s.1.0.now ≡ t.1.0.now
all-imports-leaves κs a x y s t p q = p.table_is ∙ sym q.table_is

pub all-exports-decides : Decides all-exports-kinds.ps all-exports-kinds.r all-exports.Post
all-exports-decides κs a x y s t p q = result-known x y (p.answer-is ∙ sym q.answer-is)

pub all-exports-leaves : (κs : Lfts 2) (a : Dens κs all-exports-kinds.ps) (x y : (res_t all-exports-kinds.r κs).Denot)
    (s t : AtExit (ended_of 2 all-exports-kinds.ps all-exports-kinds.r) κs)
    → all-exports.Post κs a x s → all-exports.Post κs a y t → s.1.0.now ≡ t.1.0.now
all-exports-leaves κs a x y s t p q = p.table_is ∙ sym q.table_is
