-- `put_list` meets its contract. Assumes nothing.
use Rattle.std.proofs.Common.{◌+◌, ◌≤◌, length, arith, refl, ◌∙◌}
use Rattle.policy_text.proofs.WriteLaws.{going-first, going_next, going-last, comma-near, TokenAt, token-at, whole-list}
use Rattle.policy_text.proofs.put_list.Goals.{After-find, After-trim-t}
use Rattle.policy_text.proofs.put_list.Goals as goal

pub loop-i-init : goal.loop-i-init
loop-i-init c =
    let z = c.args in
    let list = z.list.now in
    (omega arith, going-first list 0 (length list) z.out.now (omega arith), refl)

-- the next comma, or the end
near : (c : After-find) → c.loop-i.i + c.find.result ≤ length c.args.list.now
near c = comma-near c.args.list.now c.loop-i.i c.find.result (omega arith) c.find.ensures

-- the part before it, trimmed
part : (c : After-trim-t) → TokenAt c.args.list.now c.loop-i.i c.find.result c.trim-t.result.from c.trim-t.result.len
part c = token-at c.args.list.now c.loop-i.i c.find.result c.trim-t.result (omega arith) c.find.ensures c.trim-t.ensures

pub overflow_add-j : goal.overflow_add-j
overflow_add-j c = omega (arith, near (goal.at.overflow_add-j c).After-find)

pub slice_bounds-trim-end : goal.slice_bounds-trim-end
slice_bounds-trim-end c = omega (arith, near (goal.at.slice_bounds-trim-end c).After-find)

pub overflow_add-from : goal.overflow_add-from
overflow_add-from c = let t = part (goal.at.overflow_add-from c).After-trim-t in omega (arith, t.near, t.part, t.long)

pub overflow_add-token : goal.overflow_add-token
overflow_add-token c = let t = part (goal.at.overflow_add-token c).After-trim-t in omega (arith, t.near, t.part, t.long)

pub slice_bounds-token-count : goal.slice_bounds-token-count
slice_bounds-token-count c = let t = part (goal.at.slice_bounds-token-count c).After-trim-t in omega (arith, t.near, t.part, t.long)

pub slice_bounds-token-start : goal.slice_bounds-token-start
slice_bounds-token-start c = let t = part (goal.at.slice_bounds-token-start c).After-trim-t in omega (arith, t.near, t.part, t.long)

pub slice_bounds-token-end : goal.slice_bounds-token-end
slice_bounds-token-end c = let t = part (goal.at.slice_bounds-token-end c).After-trim-t in omega (arith, t.near, t.part, t.long)

pub overflow_add-i : goal.overflow_add-i
overflow_add-i c = let t = part (goal.at.overflow_add-i c).After-trim-t in omega (arith, t.near, t.part, t.long)

pub loop-i-smaller : goal.loop-i-smaller
loop-i-smaller c = let t = part (goal.at.loop-i-smaller c).After-trim-t in omega (arith, t.near, t.part, t.long)

pub loop-i-preserved : goal.loop-i-preserved
loop-i-preserved c =
    let t = part (goal.at.loop-i-preserved c).After-trim-t in
    let f = c.loop-i.i + c.trim-t.result.from in
    let i = c.loop-i.invariant in (
      omega (arith, t.near),
      rw c.mark-some.ensures
          (going_next c.find.result f (f + c.trim-t.result.len) i.1 (omega arith) (omega arith)
          c.find.ensures t.part c.put_token.ensures.added),
      c.put_token.ensures.same_reference ∙ i.2,
    )

pub returns-clause-added : goal.returns-clause-added
returns-clause-added c = rw (whole-list c.args.list.now) at (going-last c.loop-i.invariant.1 (omega arith))
