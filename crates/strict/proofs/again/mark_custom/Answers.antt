-- `strict::again::mark_custom` meets its contract. Assumes nothing.
use mathlib.Core.Path.{◌≡◌, sym, ◌∙◌}
use Prim.Native.Nat.{◌+◌, ◌-◌}
use Rattle.leb.proofs.Bounds.{counted-in}
use Rattle.leb.specs.Reads.{part_bytes}
use Rattle.strict.proofs.Marking.{falls, custom-other, custom-named}
use Rattle.strict.specs.Again.{custom_marks}
use Rattle.wasm.proofs.Customs.{cut}
use Rattle.wasm.specs.Custom.{name_word}
use borrow.Author.Tests.{not-true, not-false}
use lib.ListN.{take, drop}
use native.Mathlib.Omega.{arith}
use Rattle.strict.proofs.again.mark_custom.Goals as goal

pub returns-in_err-p : goal.returns-in_err-p
unfolding custom_marks
returns-in_err-p c = falls _ _ _ c.in_err-p.ensures c.from_residual.ensures.1

pub overflow_add-end : goal.overflow_add-end
overflow_add-end c = let w = counted-in _ _ _ _ (sym c.in_ok-p.ensures) in omega (arith, w.end, w.in-s)

pub slice_bounds-equal-end : goal.slice_bounds-equal-end
slice_bounds-equal-end c = let w = counted-in _ _ _ _ (sym c.in_ok-p.ensures) in omega (arith, w.end, w.in-s)

pub returns-then-not-equal : goal.returns-then-not-equal
unfolding name_word
returns-then-not-equal c =
    let cutting : let p = c.in_ok-p.p in let s = c.args.s.now in take (p.from + p.len - p.from) (drop p.from s) ≡ part_bytes s p =
    let p = c.in_ok-p.p in cut p.from p.len c.args.s.now in
    custom-other _ _ _ _ (sym c.in_ok-p.ensures) _ cutting c.with_number-k.ensures
    (sym c.equal.ensures ∙ not-true _ c.if-not-equal.true-raw)

pub returns : goal.returns
unfolding name_word
returns c =
    let cutting : let p = c.in_ok-p.p in let s = c.args.s.now in take (p.from + p.len - p.from) (drop p.from s) ≡ part_bytes s p =
    let p = c.in_ok-p.p in cut p.from p.len c.args.s.now in
    custom-named _ _ _ _ (sym c.in_ok-p.ensures) _ cutting c.with_number-k.ensures
    (sym c.equal.ensures ∙ not-false _ c.if-not-equal.false-raw)
    c.mark_subsections.ensures
