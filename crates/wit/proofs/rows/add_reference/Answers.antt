-- `add_reference` meets its contract. Assumes nothing.
use mathlib.Core.Path.{refl}
use native.Mathlib.Omega.{arith}
use Rattle.table.specs.Told.{Ends}
use Rattle.wit.specs.Manifest.{Numbered}
use Rattle.wit.proofs.Stepping.{refer-full, refer-put}
use Rattle.wit.proofs.rows.add_reference.Goals as goal

pub returns-then-n-room : goal.returns-then-n-room
unfolding Ends Numbered
returns-then-n-room c = (tt, tt, λ l n t e h. refer-full e h _ _ _ _ (omega (arith, c.if-n-room.true, c.capacity-room.ensures)))

pub returns : goal.returns
unfolding Ends Numbered
returns c = (
  refl,
  refl,
  λ l n t e h.
      refer-put e h _ _ _ _ _ (omega (arith, c.if-n-room.false, c.capacity-room.ensures)) c.put_reference.ensures,
)
