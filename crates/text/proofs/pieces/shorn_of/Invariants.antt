use mathlib.Core.Path.{◌≡◌}
use lib.ListN.{take}
use Rattle.text.specs.Piece.{shorn}
use Rattle.text.proofs.pieces.shorn_of.Given as goal

abbrev pub invariant-loop-i : goal.invariant-loop-i
invariant-loop-i l = shorn l.b l.s ≡ shorn l.b (take l.i l.s)
