-- `strict::again::mark_told` meets its contract. Assumes nothing.
use Rattle.strict.specs.Again.{told_marks}
use borrow.Author.Tests.{ne_eqb}
use Rattle.strict.proofs.again.mark_told.Goals as goal

pub returns-in-0 : goal.returns-in-0
unfolding told_marks
returns-in-0 c = simp c.in-0.is c.mark_part.ensures

pub returns-in-1 : goal.returns-in-1
unfolding told_marks
returns-in-1 c = simp c.in-1.is c.mark_run.ensures

pub returns-in_default : goal.returns-in_default
unfolding told_marks
returns-in_default c =
    let q = c.in_default.in_default-own.rest in
    simp (ne_eqb _ _ q.0.1, ne_eqb _ _ q.1)
