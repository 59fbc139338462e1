-- `tally` meets its contract. Assumes nothing.
use Rattle.std.proofs.Common.{map, arith}
use Rattle.verdicts.proofs.EvalLaws.{counts-none, tally-bad, tally-most, tally-more, tally-on, tally-good}
use Rattle.verdicts.proofs.tally.Goals as goal

pub loop-i-init : goal.loop-i-init
loop-i-init g c = (counts-none (map g.R.Asking.number c.args.rows.now), omega arith)

pub returns-then-d-gt-LAST_DOMAIN : goal.returns-then-d-gt-LAST_DOMAIN
returns-then-d-gt-LAST_DOMAIN g c =
    tally-bad g.R.Asking.number c.args.rows.now c.loop-i.i c.loop-i-test.true c.index-rows-i.is c.domain-d.ensures
    (omega arith) c.loop-i.invariant.1

pub overflow_add-many : goal.overflow_add-many
overflow_add-many g c =
    let most = tally-most g.R.Asking.number c.args.rows.now c.loop-i.i c.loop-i-test.true c.index-rows-i.is c.domain-d.ensures
    (omega arith) c.loop-i.invariant.0 in
    omega (arith, most)

pub loop-i-preserved : goal.loop-i-preserved
loop-i-preserved g c = (
  tally-more g.R.Asking.number c.args.rows.now c.loop-i.i c.loop-i-test.true c.index-rows-i.is c.domain-d.ensures
      (omega arith) c.loop-i.invariant.0,
  tally-on g.R.Asking.number c.args.rows.now c.loop-i.i c.loop-i-test.true c.index-rows-i.is c.domain-d.ensures
      (omega arith) c.loop-i.invariant.1,
)

pub returns : goal.returns
returns g c =
    tally-good g.R.Asking.number c.args.rows.now c.loop-i.i (omega arith) (omega arith) c.loop-i.invariant.0 c.loop-i.invariant.1
