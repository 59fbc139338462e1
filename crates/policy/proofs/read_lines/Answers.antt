-- `read_lines` meets its contract. Assumes nothing.
use Rattle.std.proofs.Common.{rules, ◌≡◌, Err, sym, ap, ◌∙◌, arith}
use Rattle.text.proofs.LineLaws.{line-bounds}
use Rattle.policy.specs.Piece.{lines_from, lines_of}
use Rattle.policy.specs.Reader.{run, obey}
use Rattle.policy.proofs.LoopLaws.{run_end, turn_small, turn-stop, turn_on}
use Rattle.policy.proofs.read_lines.Goals as goal

pub loop-at-init : goal.loop-at-init
unfolding lines_of
loop-at-init c =
    let s = c.args.s.now in
    (omega arith, omega arith, ap (λ v. run obey 1 v (lines_from 0 0 s)) (sym c.default_policy-policy.ensures))

pub heard_at-requires : goal.heard_at-requires
heard_at-requires c = omega (arith, c.line_at-l.ensures, line-bounds c.args.s.now c.loop-at.at (omega arith))

pub returns-in_err-heard : goal.returns-in_err-heard
returns-in_err-heard c =
    let l = c.line_at-l.ensures in
    let e : c.from_residual.result ≡ Err c.in_err-heard.field-0.0 = search rules in
    let q = sym c.in_err-heard.ensures in
    rw e (turn-stop c.args.s.now c.loop-at.at c.loop-at.line _ _ l.0 l.1 c.loop-at.policy (omega arith) q ∙ sym c.loop-at.invariant.2)

pub obey-requires : goal.obey-requires
obey-requires c =
    let l = c.line_at-l.ensures in
    turn_small c.args.s.now c.loop-at.at c.loop-at.line _ _ l.0 l.1 (sym c.in_ok-heard.ensures)

pub loop-at-smaller : goal.loop-at-smaller
loop-at-smaller c = omega (arith, c.line_at-l.ensures, line-bounds c.args.s.now c.loop-at.at (omega arith))

pub loop-at-preserved : goal.loop-at-preserved
loop-at-preserved c =
    let s = c.args.s.now in
    let at = c.loop-at.at in
    let l = c.line_at-l.ensures in
    let b = line-bounds s at (omega arith) in
    let turned = turn_on s at c.loop-at.line _ _ l.0 l.1 c.loop-at.policy c.obey.new.policy (omega arith)
    (sym c.in_ok-heard.ensures) c.obey.ensures in
    (omega (arith, l, b), omega (arith, l, b), c.loop-at.invariant.2 ∙ turned)

pub returns : goal.returns
returns c = sym (c.loop-at.invariant.2 ∙ run_end c.args.s.now c.loop-at.at c.loop-at.line c.loop-at.policy (omega arith))
