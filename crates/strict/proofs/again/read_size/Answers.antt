-- `strict::again::read_size` meets its contract. Assumes nothing.
use Rattle.strict.proofs.Marking.{four_bytes}
use borrow.Author.Tests.{leb-true, ltb-true}
use native.Mathlib.Omega.{arith}
use Rattle.strict.proofs.again.read_size.Goals as goal

pub returns-then-last-lt-GROUP : goal.returns-then-last-lt-GROUP
returns-then-last-lt-GROUP c =
    let r = c.remaining.ensures in
    let x = c.wide-first.ensures in
    let y = c.wide-second.ensures in
    let z = c.wide-third.ensures in
    four_bytes _ _ _ _ _ _ (omega (arith, r)) x.0 y.0 z.0 c.wide-last.ensures.0 c.if-first-ge-GROUP.true c.if-second-ge-GROUP.true
    (leb-true _ _ c.if-third-ge-GROUP.true-raw) (ltb-true _ _ c.if-last-lt-GROUP.true-raw) x.1 y.1 z.1 (omega arith)
