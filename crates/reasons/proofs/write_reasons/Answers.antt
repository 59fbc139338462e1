-- `reasons::write_reasons` meets its contract. Assumes nothing.
use native.Mathlib.Omega.{arith}
use Rattle.std.proofs.Common.{rules}
use Rattle.output.proofs.Writing.{counted_full, counted_done}
use Rattle.differences.specs.Compared.{given_of}
use Rattle.reasons.specs.Reasons.{diffs_of}
use Rattle.reasons.proofs.Lines.{reasons-few}
use Rattle.reasons.proofs.write_reasons.Goals as goal

pub returns-then-out-needed : goal.returns-then-out-needed
returns-then-out-needed c =
    let a = c.args in
    let p = c.requires.baseline_len_bound in
    let few = reasons-few (given_of a.baseline) (given_of a.candidate) (diffs_of a.diffs) p.0 p.1 p.2 p.3 (omega arith) in
    counted_full _ _ _ c.put_reasons.ensures.added c.counting-counted.ensures.is (search rules) few
    c.if-out-needed.true

pub returns : goal.returns
returns c =
    let a = c.args in
    let p = c.requires.baseline_len_bound in
    let few = reasons-few (given_of a.baseline) (given_of a.candidate) (diffs_of a.diffs) p.0 p.1 p.2 p.3 (omega arith) in
    counted_done _ _ _ c.put_reasons.ensures.added c.counting-counted.ensures.is (search rules) few
    c.if-out-needed.false c.put_reasons-2.ensures.added c.writing-written.ensures.is (search rules)
