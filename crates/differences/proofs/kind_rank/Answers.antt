-- `differences::kind_rank` meets its contract. Assumes nothing.
use native.Mathlib.Omega.{arith}
use borrow.Author.Tests.{ne_eqb}
use Rattle.differences.specs.Rank.{rank_of}
use Rattle.differences.proofs.kind_rank.Goals as goal

pub returns-in-1 : goal.returns-in-1
unfolding rank_of
returns-in-1 c = simp c.in-1.is

pub returns-in-3 : goal.returns-in-3
unfolding rank_of
returns-in-3 c = simp c.in-3.is

pub returns-in_default : goal.returns-in_default
unfolding rank_of
returns-in_default c = simp (ne_eqb c.args.kind 1 (λ e. omega arith), ne_eqb c.args.kind 3 (λ e. omega arith))
