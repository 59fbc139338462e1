-- `wasm::section::take_section` meets its contract. Assumes nothing.
use mathlib.Core.Path.{refl}
use native.Mathlib.Omega.{arith}
use Rattle.wasm.specs.Lending.{sizes_of}
use Rattle.wasm.proofs.Framing.{take-full, take_more}
use Rattle.table.specs.Told.{Ends}
use Rattle.wasm.proofs.section.take_section.Goals as goal

pub returns-then-k-room-clause-ends : goal.returns-then-k-room-clause-ends
unfolding Ends
returns-then-k-room-clause-ends c = tt

pub returns-then-k-room-clause-taken : goal.returns-then-k-room-clause-taken
returns-then-k-room-clause-taken c t n h =
    take-full (sizes_of c.args.tables.now) _ _ t _ _ n refl (omega (arith, c.if-k-room.true, c.capacity-room.ensures))

pub returns-clause-ends : goal.returns-clause-ends
unfolding Ends
returns-clause-ends c = refl

pub returns-clause-taken : goal.returns-clause-taken
returns-clause-taken c t n h =
    take_more _ _ _ t _ _ n refl h (omega (arith, c.if-k-room.false, c.capacity-room.ensures)) c.put_section.ensures
