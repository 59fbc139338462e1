-- `strict::again::mark_entry` meets its contract. Assumes nothing.
use Rattle.strict.specs.Again.{entry_marks}
use borrow.Author.Tests.{ne_eqb}
use Rattle.strict.proofs.again.mark_entry.Goals as goal

pub returns-in-2 : goal.returns-in-2
unfolding entry_marks
returns-in-2 c = simp c.in-2.is c.mark_import.ensures

pub returns-in-7 : goal.returns-in-7
unfolding entry_marks
returns-in-7 c = simp c.in-7.is c.mark_export.ensures

pub returns-in_default : goal.returns-in_default
unfolding entry_marks
returns-in_default c =
    let q = c.in_default.in_default-own.rest in
    simp (ne_eqb _ _ q.0.1, ne_eqb _ _ q.1) c.mark_symbol.ensures
