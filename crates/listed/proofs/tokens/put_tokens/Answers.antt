-- `put_tokens` meets its contract: the ranges that are left, put after those that are there, make the whole. Assumes nothing.
use native.Mathlib.Omega.{arith}
use mathlib.Core.Path.{refl, sym, ap, ◌∙◌}
use mathlib.Core.List.{List}
use lib.ListN.{length}
use Rattle.refusal.specs.declared.Part.{Part}
use Rattle.table.specs.Table.{put}
use Rattle.policy_text.specs.Token.{tokens_in}
use Rattle.listed.specs.Tokens.{tokens_bytes}
use Rattle.listed.proofs.Listing.{found-more, found_none, put_last, turned}
use Rattle.listed.proofs.tokens.put_tokens.Goals as goal

pub loop-token-init : goal.loop-token-init
loop-token-init c = (omega arith, refl, refl)

pub shape_of-out : goal.shape_of-out
shape_of-out c = c.loop-token.invariant.1

pub returns : goal.returns
returns c =
    let l = c.loop-token in
    sym (put_last l.out l.o)
    ∙ ap (λ (xs : List Part). put l.out l.o (tokens_bytes xs))
    (sym (found_none _ _ _ c.first_token.ensures c.in_default.is))
    ∙ l.invariant.2

pub slice_bounds-put_cells-end : goal.slice_bounds-put_cells-end
slice_bounds-put_cells-end c = refl

pub loop-token-smaller : goal.loop-token-smaller
loop-token-smaller c =
    let m = found-more _ _ _ c.first_token.ensures c.in-Some.is in
    omega (arith, m.on, m.near)

pub loop-token-preserved : goal.loop-token-preserved
loop-token-preserved c =
    let m = found-more _ _ _ c.first_token.ensures c.in-Some.is in
    let l = c.loop-token in
    let a = c.args in
    let n = ap length m.list in
    let t = turned l.out l.o c.in-Some.token.part (tokens_in a.s.now c.in-Some.token.next a.end) (omega arith)
    c.put_cells-o.ensures in (
      omega (arith, t.next),
      t.long ∙ l.invariant.1,
      t.rest ∙ ap (λ (xs : List Part). put l.out l.o (tokens_bytes xs)) (sym m.list) ∙ l.invariant.2,
    )
