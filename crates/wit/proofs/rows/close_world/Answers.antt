-- `close_world` meets its contract. Assumes nothing.
use mathlib.Core.Path.{refl}
use native.Mathlib.Omega.{arith}
use Rattle.table.specs.Told.{Ends}
use Rattle.wit.specs.Manifest.{Numbered}
use Rattle.wit.proofs.Stepping.{close-none, close-full, close-put}
use Rattle.wit.proofs.rows.close_world.Goals as goal

pub returns-in_default : goal.returns-in_default
unfolding Ends Numbered
returns-in_default c = (refl, refl, λ l n t e h. close-none e h _ c.in_default.is)

pub returns-then-n-room : goal.returns-then-n-room
unfolding Ends Numbered
returns-then-n-room c = (tt, tt, λ l n t e h. close-full e h _ c.in-Some.is (omega (arith, c.if-n-room.true, c.capacity-room.ensures)))

pub returns : goal.returns
unfolding Ends Numbered
returns c = (
  refl,
  refl,
  λ l n t e h. close-put e h _ c.in-Some.is _ (omega (arith, c.if-n-room.false, c.capacity-room.ensures)) c.put_world.ensures,
)
