-- `jump` meets its contract. Assumes nothing.
use Prim.Native.Nat.{◌+◌}
use native.Mathlib.Omega.{arith}
use Rattle.text.proofs.FastLaws.{jump-eight, jump-on, jump-one, jump-step}
use Rattle.text.proofs.utf8.jump.Goals as goal

pub returns-then-low-high-lt128 : goal.returns-then-low-high-lt128
returns-then-low-high-lt128 c =
    let a = c.args in
    let e = jump-eight a.s.now a.at (omega (arith, c.if-s-at-ge8.true)) c.if-s-at-lt128.true c.if-low-high-lt128.true in
    jump-on a.s.now a.at (a.at + 8) c.run.result e c.run.ensures

pub returns-then-s-at-lt128 : goal.returns-then-s-at-lt128
returns-then-s-at-lt128 c =
    let a = c.args in
    jump-one a.s.now a.at (omega arith) c.if-s-at-lt128.true

pub returns : goal.returns
returns c =
    let a = c.args in
    jump-step a.s.now a.at c.step.result (omega arith) c.step.ensures
