-- `import_rows::given_of` meets its contract. Assumes nothing.
use Prim.Native.Nat.{ℕ, ◌+◌, ◌*◌}
use mathlib.Core.Path.{ap}
use native.Mathlib.Omega.{arith}
use lib.Bits.{and_mask}
use borrow.Author.Tests.{ne_eqb}
use Rattle.import_rows.specs.Queries.{given_of}
use Rattle.import_rows.proofs.given_of.Goals as goal

pub overflow_mul-most : goal.overflow_mul-most
overflow_mul-most c = omega (arith, and_mask c.args.flag 1)

pub overflow_add-result : goal.overflow_add-result
overflow_add-result c = omega (arith, and_mask c.args.flag 1)

pub overflow_add-result-in-2 : goal.overflow_add-result-in-2
overflow_add-result-in-2 c = omega (arith, and_mask c.args.flag 1)

pub returns-in-0 : goal.returns-in-0
unfolding given_of
returns-in-0 c = simp c.in-0.is

pub returns-in-1 : goal.returns-in-1
unfolding given_of
returns-in-1 c = simp c.in-1.is (ap (λ (b : ℕ). 14 + b * 16) (and_mask c.args.flag 1))

pub returns-in-2 : goal.returns-in-2
unfolding given_of
returns-in-2 c = simp c.in-2.is (ap (λ (b : ℕ). 12 + b * 16) (and_mask c.args.flag 1))

pub returns-in-3 : goal.returns-in-3
unfolding given_of
returns-in-3 c = simp c.in-3.is

pub returns-in_default : goal.returns-in_default
unfolding given_of
returns-in_default c =
    let k = c.args.kind in
    simp (ne_eqb k 0 (λ e. omega arith), ne_eqb k 1 (λ e. omega arith), ne_eqb k 2 (λ e. omega arith), ne_eqb k 3 (λ e. omega arith))
