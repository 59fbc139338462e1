-- `token_at` meets its contract. Assumes nothing.
use mathlib.Core.Path.{refl, sym, ◌∙◌}
use native.Mathlib.Omega.{arith}
use Rattle.policy_text.proofs.TokenLaws.{comma-near, token-near, token-next, token-found, token-none}
use Rattle.policy_text.proofs.token.token_at.Goals as goal

pub loop-i-init : goal.loop-i-init
loop-i-init c = refl

pub slice_bounds-find-count : goal.slice_bounds-find-count
slice_bounds-find-count c = omega arith

pub slice_bounds-find-start : goal.slice_bounds-find-start
slice_bounds-find-start c = omega arith

pub slice_bounds-find-end : goal.slice_bounds-find-end
slice_bounds-find-end c = omega arith

pub overflow_add-comma : goal.overflow_add-comma
overflow_add-comma c =
    let a = c.args in
    omega (arith, comma-near a.s.now c.loop-i.i a.end (omega arith) (omega arith) c.find.result c.find.ensures)

pub slice_bounds-trim-count : goal.slice_bounds-trim-count
slice_bounds-trim-count c =
    let a = c.args in
    omega (arith, comma-near a.s.now c.loop-i.i a.end (omega arith) (omega arith) c.find.result c.find.ensures)

pub slice_bounds-trim-start : goal.slice_bounds-trim-start
slice_bounds-trim-start c =
    let a = c.args in
    omega (arith, comma-near a.s.now c.loop-i.i a.end (omega arith) (omega arith) c.find.result c.find.ensures)

pub slice_bounds-trim-end : goal.slice_bounds-trim-end
slice_bounds-trim-end c =
    let a = c.args in
    omega (arith, comma-near a.s.now c.loop-i.i a.end (omega arith) (omega arith) c.find.result c.find.ensures)

pub overflow_add-part : goal.overflow_add-part
overflow_add-part c =
    let a = c.args in
    let s = a.s.now in
    let i = c.loop-i.i in
    let k = c.find.result in
    omega (
      arith,
      token-near s i a.end (omega arith) (omega arith) k c.find.ensures c.trim-t.result c.trim-t.ensures,
      comma-near s i a.end (omega arith) (omega arith) k c.find.ensures,
    )

pub returns-then-t-ne0 : goal.returns-then-t-ne0
returns-then-t-ne0 c =
    let a = c.args in
    let s = a.s.now in
    let i = c.loop-i.i in
    let k = c.find.result in
    sym
    (c.loop-i.invariant
    ∙ token-found s i a.end (omega arith) (omega arith) k c.find.ensures c.trim-t.result c.trim-t.ensures
    c.if-t-ne0.true c.min-next.ensures)

pub overflow_add-i : goal.overflow_add-i
overflow_add-i c =
    let a = c.args in
    let s = a.s.now in
    let i = c.loop-i.i in
    let k = c.find.result in
    omega (arith, comma-near s i a.end (omega arith) (omega arith) k c.find.ensures)

pub loop-i-smaller : goal.loop-i-smaller
loop-i-smaller c =
    let a = c.args in
    let s = a.s.now in
    let i = c.loop-i.i in
    let k = c.find.result in
    omega (arith, comma-near s i a.end (omega arith) (omega arith) k c.find.ensures)

pub loop-i-preserved : goal.loop-i-preserved
loop-i-preserved c =
    let a = c.args in
    let s = a.s.now in
    let i = c.loop-i.i in
    let k = c.find.result in
    c.loop-i.invariant ∙ token-next s i a.end (omega arith) (omega arith) k c.find.ensures c.trim-t.result c.trim-t.ensures
    c.if-t-ne0.false

pub returns : goal.returns
returns c =
    let a = c.args in
    sym (c.loop-i.invariant ∙ token-none a.s.now c.loop-i.i a.end (omega arith))
