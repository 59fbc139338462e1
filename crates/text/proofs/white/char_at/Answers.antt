-- `char_at` meets its contract. Assumes nothing.
use mathlib.Core.Path.{◌≡◌, sym, ◌∙◌}
use mathlib.Core.List.{List}
use Prim.Native.Nat.{ℕ, suc, ◌-◌, ◌<◌}
use native.Mathlib.Omega.{arith}
use lib.ListN.{length, drop}
use Rattle.std.specs.Prelude.{Option, Some}
use Rattle.text.specs.Utf8.{seq_len}
use Rattle.text.specs.Steps.{step_at}
use Rattle.text.proofs.CharLaws.{Long, long, short, code-0, code-1, code-2, code-3, code-4, more_of, more-0}
use Rattle.text.proofs.white.char_at.Goals as goal

-- the sequence that the step found
found : (s : List ℕ) (at n : ℕ) {r : Option ℕ} → at < length s → r ≡ step_at s at → r ≡ Some n → Long s at n
found s at n h e q = long s at n h (sym e ∙ q)

pub returns-in_default : goal.returns-in_default
returns-in_default c =
    let a = c.args in
    let e = short a.s.now a.at (sym c.step.ensures ∙ c.in_default.is) in
    (sym (code-0 a.s.now a.at e), sym (more-0 a.s.now a.at e))

pub overflow_sub-more : goal.overflow_sub-more
overflow_sub-more c =
    let a = c.args in
    let w = found a.s.now a.at c.in-Some.n (omega arith) c.step.ensures c.in-Some.is in
    omega (arith, w)

pub overflow_sub-more-2 : goal.overflow_sub-more-2
overflow_sub-more-2 c =
    let a = c.args in
    let w = found a.s.now a.at c.in-Some.n (omega arith) c.step.ensures c.in-Some.is in
    omega (arith, w)

pub returns-in-0 : goal.returns-in-0
returns-in-0 c =
    let a = c.args in
    let w = found a.s.now a.at c.in-Some.n (omega arith) c.step.ensures c.in-Some.is in
    let e : seq_len (drop a.at a.s.now) ≡ 1 = omega (arith, w) in
    omega (arith, code-1 a.s.now a.at e, more_of a.s.now a.at 0 e)

pub returns-in-1 : goal.returns-in-1
returns-in-1 c =
    let a = c.args in
    let w = found a.s.now a.at c.in-Some.n (omega arith) c.step.ensures c.in-Some.is in
    let e : seq_len (drop a.at a.s.now) ≡ 2 = omega (arith, w) in
    omega (arith, code-2 a.s.now a.at e, more_of a.s.now a.at 1 e)

pub returns-in-2 : goal.returns-in-2
returns-in-2 c =
    let a = c.args in
    let w = found a.s.now a.at c.in-Some.n (omega arith) c.step.ensures c.in-Some.is in
    let e : seq_len (drop a.at a.s.now) ≡ 3 = omega (arith, w) in
    omega (arith, code-3 a.s.now a.at e, more_of a.s.now a.at 2 e)

pub returns-in_default-more : goal.returns-in_default-more
returns-in_default-more c =
    let a = c.args in
    let w = found a.s.now a.at c.in-Some.n (omega arith) c.step.ensures c.in-Some.is in
    let n = c.in-Some.n - a.at - 4 in
    let e : seq_len (drop a.at a.s.now) ≡ suc (suc (suc (suc n))) = omega (arith, w, c.in_default-more) in
    omega (arith, code-4 a.s.now a.at n e, more_of a.s.now a.at (suc (suc (suc n))) e)
