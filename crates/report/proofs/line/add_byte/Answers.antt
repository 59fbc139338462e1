-- `add_byte` meets its contract. Assumes nothing.
use Rattle.report.proofs.Lines.{kept, longer}
use Rattle.report.proofs.line.add_byte.Goals as goal

pub returns-then-l-ge-ROOM : goal.returns-then-l-ge-ROOM
returns-then-l-ge-ROOM c = kept _ _ c.if-l-ge-ROOM.true

pub returns : goal.returns
returns c = longer _ _ c.if-l-ge-ROOM.false
