-- `strict::again::mark_desc` meets its contract. Assumes nothing.
use Rattle.strict.specs.Again.{desc_marks}
use borrow.Author.Tests.{ne_eqb}
use Rattle.strict.proofs.again.mark_desc.Goals as goal

pub returns-in-0 : goal.returns-in-0
unfolding desc_marks
returns-in-0 c = simp c.in-0.is c.mark_number.ensures

pub returns-in-1 : goal.returns-in-1
unfolding desc_marks
returns-in-1 c = simp c.in-1.is c.mark_table.ensures

pub returns-in-2 : goal.returns-in-2
unfolding desc_marks
returns-in-2 c = simp c.in-2.is c.mark_limits.ensures

pub returns-in-3 : goal.returns-in-3
unfolding desc_marks
returns-in-3 c = simp c.in-3.is c.mark_global.ensures

pub returns-in_default : goal.returns-in_default
unfolding desc_marks
returns-in_default c =
    let q = c.in_default.in_default-own.rest in
    simp (ne_eqb _ _ q.0.0.0.1, ne_eqb _ _ q.0.0.1, ne_eqb _ _ q.0.1, ne_eqb _ _ q.1)
