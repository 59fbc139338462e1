-- `first_bad` meets its contract. Assumes nothing.
use Rattle.std.proofs.Common.{◌≡◌, sym, ◌∙◌, arith}
use Rattle.policy.specs.Eight.{eight, slot_of}
use Rattle.policy.proofs.EightLaws.{bad-on, bad-here, bad-seven, bad-eight, eight-next, row-here, row-none}
use Rattle.policy.proofs.ranges.first_bad.Goals as goal

pub returns-then-not-fits : goal.returns-then-not-fits
returns-then-not-fits c =
    let p = c.args.p in
    let i = c.loop-i.i in
    row-here _ p i (omega arith) c.loop-i.invariant
    (bad-here c.args.n (eight p) i (slot_of p i) (eight-next p i (omega arith)) (sym c.fits.ensures ∙ c.if-not-fits.true))

pub loop-i-preserved : goal.loop-i-preserved
loop-i-preserved c =
    let p = c.args.p in
    let i = c.loop-i.i in
    let on = bad-on c.args.n (eight p) i (slot_of p i) (eight-next p i (omega arith)) (sym c.fits.ensures ∙ c.if-not-fits.false) in
    omega (arith, on)

pub returns-then-fits : goal.returns-then-fits
returns-then-fits c =
    let z : c.loop-i.i ≡ 7 = omega arith in
    let v = rw z at c.loop-i.invariant in
    row-none _ _ (omega (arith, v, bad-eight c.args.n c.args.p (sym c.fits-2.ensures ∙ c.if-fits.true)))

pub returns-else-fits : goal.returns-else-fits
returns-else-fits c =
    let z : c.loop-i.i ≡ 7 = omega arith in
    row-here _ c.args.p 7 (omega arith) (rw z at c.loop-i.invariant)
    (bad-seven c.args.n c.args.p (sym c.fits-2.ensures ∙ c.if-fits.false))
