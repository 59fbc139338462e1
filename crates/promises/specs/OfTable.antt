-- No two answers, and no two final contents of a lent table, satisfy the promise of any function of table. Assumes nothing.
use Rattle.std.specs.Prelude.{◌≡◌}
use Rattle.std.proofs.Common.{sym, ◌∙◌}
use contract.Lifetimes.{Lfts}
use borrow.Fn.Kinds.{Dens, res_t, ended_of}
use denote.Triple.Clauses.{AtExit}
use Rattle.refusal.proofs.Known.{result-known}
use Rattle.promises.specs.Decides.{Decides}
use Rattle.table.proofs.clear.Kinds as clear-kinds
use Rattle.table.proofs.clear.Reads as clear
use Rattle.table.proofs.put_row.Kinds as put-row-kinds
use Rattle.table.proofs.put_row.Reads as put-row
use Rattle.table.proofs.capacity.Kinds as capacity-kinds
use Rattle.table.proofs.capacity.Reads as capacity
use Rattle.table.proofs.cell.Kinds as cell-kinds
use Rattle.table.proofs.cell.Reads as cell
use Rattle.table.proofs.range.Kinds as range-kinds
use Rattle.table.proofs.range.Reads as range
use Rattle.table.proofs.name.Kinds as name-kinds
use Rattle.table.proofs.name.Reads as name
use Rattle.table.proofs.refuse_row.Kinds as refuse-row-kinds
use Rattle.table.proofs.refuse_row.Reads as refuse-row
use Rattle.table.proofs.given.GivenTable.check_count.Kinds as check-count-kinds
use Rattle.table.proofs.given.GivenTable.check_count.Reads as check-count

pub capacity-decides : Decides capacity-kinds.ps capacity-kinds.r capacity.Post
capacity-decides κs a x y s t p q = p ∙ sym q

pub cell-decides : Decides cell-kinds.ps cell-kinds.r cell.Post
cell-decides κs a x y s t p q = p ∙ sym q

pub refuse-row-decides : Decides refuse-row-kinds.ps refuse-row-kinds.r refuse-row.Post
refuse-row-decides κs a x y s t p q = result-known x y (p ∙ sym q)

pub check-count-decides : Decides check-count-kinds.ps check-count-kinds.r check-count.Post
check-count-decides κs a x y s t p q = result-known x y (p ∙ sym q)

-- what the part holds, and where it starts
pub range-decides : (κs : Lfts 1) (a : Dens κs range-kinds.ps) (x y : (res_t range-kinds.r κs).Denot)
    (s t : AtExit (ended_of 1 range-kinds.ps range-kinds.r) κs) → range.Post κs a x s → range.Post κs a y t
    → (x.now ≡ y.now) × (x.ref_ptr.0 ≡ y.ref_ptr.0) × (x.ref_ptr.1 ≡ y.ref_ptr.1)
range-decides κs a x y s t p q = (p.0 ∙ sym q.0, p.1 ∙ sym q.1, p.2 ∙ sym q.2)

-- the same of a row's name
pub name-decides : (κs : Lfts 2) (a : Dens κs name-kinds.ps) (x y : (res_t name-kinds.r κs).Denot)
    (s t : AtExit (ended_of 2 name-kinds.ps name-kinds.r) κs) → name.Post κs a x s → name.Post κs a y t
    → (x.now ≡ y.now) × (x.ref_ptr.0 ≡ y.ref_ptr.0) × (x.ref_ptr.1 ≡ y.ref_ptr.1)
name-decides κs a x y s t p q = (p.0 ∙ sym q.0, p.1 ∙ sym q.1, p.2 ∙ sym q.2)

pub clear-leaves : (κs : Lfts 1) (a : Dens κs clear-kinds.ps) (x y : (res_t clear-kinds.r κs).Denot)
    (s t : AtExit (ended_of 1 clear-kinds.ps clear-kinds.r) κs) → clear.Post κs a x s → clear.Post κs a y t → s.0.now ≡ t.0.now
clear-leaves κs a x y s t p q = p ∙ sym q

pub put-row-leaves : (κs : Lfts 2) (a : Dens κs put-row-kinds.ps) (x y : (res_t put-row-kinds.r κs).Denot)
    (s t : AtExit (ended_of 2 put-row-kinds.ps put-row-kinds.r) κs) → put-row.Post κs a x s → put-row.Post κs a y t
    → s.0.now ≡ t.0.now
put-row-leaves κs a x y s t p q = p ∙ sym q
