-- `strict::again::mark_contents` meets its contract. Assumes nothing.
use Rattle.strict.proofs.Marking.{contents-list, contents-none}
use Rattle.strict.specs.Again.{contents_marks}
use Rattle.strict.proofs.again.mark_contents.Goals as goal

pub returns-in-0 : goal.returns-in-0
unfolding contents_marks
returns-in-0 c = simp c.in-0.is c.mark_custom.ensures

pub returns-in-2 : goal.returns-in-2
returns-in-2 c = contents-list _ _ _ c.in-2.is c.mark_list.ensures

pub returns-in_default : goal.returns-in_default
returns-in_default c =
    let q = c.in_default.in_default-own.rest in
    contents-none _ _ _ q.0.1 q.1
