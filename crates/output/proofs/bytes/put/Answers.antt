-- `put` meets its contract. Assumes nothing.
use Rattle.std.proofs.Common.{◌≡◌, ◌+◌, ◌<◌, length, ap, ◌∙◌, add-one, arith}
use Rattle.std.proofs.Math.Seq.{paste, paste-zero, paste-suc}
use Rattle.output.proofs.ByteLaws.{puts-over, puts-no, puts-full, puts-all}
use Rattle.output.proofs.bytes.put.Goals.{else-go-via-then-go+else-end-out, else-go-via-else-go}
use Rattle.output.proofs.bytes.put.Goals as goal

pub returns-in_default : goal.returns-in_default
returns-in_default c =
    let a = c.args in
    puts-over a.out.now a.at a.go a.bytes.now (omega arith) (omega (arith, c.in_default.ensures))

pub loop-j-init : goal.loop-j-init
loop-j-init c = paste-zero c.args.out.now c.args.at c.args.bytes.now

pub loop-j-preserved : goal.loop-j-preserved
loop-j-preserved c =
    let a = c.args in
    let j = c.loop-j.j in
    let i : a.at + j < length a.out.now = omega (arith, c.in-Some.ensures) in
    rw (c.loop-j.invariant, add-one) (paste-suc a.out.now a.at a.bytes.now j 0 i c.loop-j-test.true)

pub returns-after-loop-j : goal.returns-after-loop-j
returns-after-loop-j c =
    let a = c.args in
    let past : c.loop-j.j ≡ length a.bytes.now = omega arith in
    puts-all a.out.now a.at a.go a.bytes.now c.if-go.true c.if-end-out.true (omega (arith, c.in-Some.ensures))
    c.in-Some.ensures.1 (c.loop-j.invariant ∙ ap (paste a.out.now a.at a.bytes.now) past)

pub returns-else-go : goal.returns-else-go
returns-else-go c =
    let a = c.args in
    elim c.else-go.branch [
      | else-go-via-then-go+else-end-out w ↦ puts-full a.out.now a.at a.go a.bytes.now w.if-end-out.false
          (omega (arith, c.in-Some.ensures)) c.in-Some.ensures.1
      | else-go-via-else-go w ↦ puts-no a.out.now a.at a.go a.bytes.now w.if-go.false
          (omega (arith, c.in-Some.ensures)) c.in-Some.ensures.1
    ]
