-- `strict::rules::section_place` meets its contract. Assumes nothing.
use native.Mathlib.Omega.{arith}
use Rattle.strict.proofs.Ruling.{place-few, place-late}
use Rattle.strict.specs.Rules.{section_place}
use Rattle.strict.proofs.rules.section_place.Goals as goal

pub returns-in-0-to-9 : goal.returns-in-0-to-9
returns-in-0-to-9 c = place-few _ (omega arith)

pub returns-in-10 : goal.returns-in-10
unfolding section_place
returns-in-10 c = simp c.in-10.is

pub returns-in-11 : goal.returns-in-11
unfolding section_place
returns-in-11 c = simp c.in-11.is

pub returns-in-12 : goal.returns-in-12
unfolding section_place
returns-in-12 c = simp c.in-12.is

pub returns-in_default : goal.returns-in_default
returns-in_default c =
    let q = c.in_default.in_default-own.rest in
    place-late _ (omega arith) q.0.0.1 q.0.1 q.1
