-- No two answers satisfy the promise of any function of differences. Assumes nothing.
use Rattle.std.proofs.Common.{sym, ◌∙◌}
use Rattle.std.specs.Prelude.{◌≡◌}
use Rattle.refusal.proofs.Known.{result-known}
use Rattle.promises.specs.Decides.{Decides}
use contract.Lifetimes.{Lfts}
use borrow.Fn.Kinds.{Dens, res_t, ended_of}
use denote.Triple.Clauses.{AtExit}
use Rattle.differences.proofs.change_number.Kinds as change-number-kinds
use Rattle.differences.proofs.change_number.Reads as change-number
use Rattle.differences.proofs.change_slug.Kinds as change-slug-kinds
use Rattle.differences.proofs.change_slug.Reads as change-slug
use Rattle.differences.proofs.kind_rank.Kinds as kind-rank-kinds
use Rattle.differences.proofs.kind_rank.Reads as kind-rank
use Rattle.differences.proofs.check_exports.Kinds as check-exports-kinds
use Rattle.differences.proofs.check_exports.Reads as check-exports
use Rattle.differences.proofs.check_tables.Kinds as check-tables-kinds
use Rattle.differences.proofs.check_tables.Reads as check-tables
use Rattle.differences.proofs.check_both.Kinds as check-both-kinds
use Rattle.differences.proofs.check_both.Reads as check_both
use Rattle.differences.proofs.parts.export_diff_name.Kinds as export-kinds
use Rattle.differences.proofs.parts.export_diff_name.Reads as export
use Rattle.differences.proofs.parts.capability_diff_source.Kinds as capability-kinds
use Rattle.differences.proofs.parts.capability_diff_source.Reads as capability

pub change-number-decides : Decides change-number-kinds.ps change-number-kinds.r change-number.Post
change-number-decides κs a x y s t p q = p ∙ sym q

pub change-slug-decides : Decides change-slug-kinds.ps change-slug-kinds.r change-slug.Post
change-slug-decides κs a x y s t p q = p ∙ sym q

pub kind-rank-decides : Decides kind-rank-kinds.ps kind-rank-kinds.r kind-rank.Post
kind-rank-decides κs a x y s t p q = p ∙ sym q

pub check-exports-decides : Decides check-exports-kinds.ps check-exports-kinds.r check-exports.Post
check-exports-decides κs a x y s t p q = result-known x y (p ∙ sym q)

pub check-tables-decides : Decides check-tables-kinds.ps check-tables-kinds.r check-tables.Post
check-tables-decides κs a x y s t p q = result-known x y (p ∙ sym q)

pub check-both-decides : Decides check-both-kinds.ps check-both-kinds.r check_both.Post
check-both-decides κs a x y s t p q = result-known x y (p ∙ sym q)

pub export-diff-name-decides : (κs : Lfts 2) (a : Dens κs export-kinds.ps) (x y : (res_t export-kinds.r κs).Denot)
    (s t : AtExit (ended_of 2 export-kinds.ps export-kinds.r) κs) → export.Post κs a x s → export.Post κs a y t
    → (x.now ≡ y.now) × (x.ref_ptr.0 ≡ y.ref_ptr.0) × (x.ref_ptr.1 ≡ y.ref_ptr.1)
export-diff-name-decides κs a x y s t p q = (p.0 ∙ sym q.0, p.1 ∙ sym q.1, p.2 ∙ sym q.2)

pub capability-diff-source-decides : (κs : Lfts 2) (a : Dens κs capability-kinds.ps) (x y : (res_t capability-kinds.r κs).Denot)
    (s t : AtExit (ended_of 2 capability-kinds.ps capability-kinds.r) κs) → capability.Post κs a x s → capability.Post κs a y t
    → (x.now ≡ y.now) × (x.ref_ptr.0 ≡ y.ref_ptr.0) × (x.ref_ptr.1 ≡ y.ref_ptr.1)
capability-diff-source-decides κs a x y s t p q = (p.0 ∙ sym q.0, p.1 ∙ sym q.1, p.2 ∙ sym q.2)
