-- `escape::put_name` meets its contract. Assumes nothing.
use mathlib.Core.Path.{refl, ◌∙◌}
use Rattle.reviewed.proofs.Escapes.{name-none, name-next, name-all}
use Rattle.reviewed.proofs.escape.put_name.Goals as goal

pub loop-b-init : goal.loop-b-init
loop-b-init c = (refl, name-none c.args.out.now c.args.name.now)

pub loop-b-preserved : goal.loop-b-preserved
loop-b-preserved c = (
  c.put_shown.ensures.same_reference ∙ c.loop-b.invariant.0,
  name-next c.args.name.now c.loop-b.b-index c.loop-b-test.true c.loop-b.invariant.1 c.put_shown.ensures.added,
)

pub returns-clause-added : goal.returns-clause-added
returns-clause-added c = name-all c.args.name.now c.loop-b.b-index c.loop-b-test.false c.loop-b.invariant.1
