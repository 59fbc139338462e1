use mathlib.Core.Path.{◌≡◌}
use lib.ListN.{length}
use Rattle.strict.proofs.Newness.{Looked}
use Rattle.strict.proofs.quick.all_new.Given as goal

abbrev pub invariant-loop-i : goal.invariant-loop-i
invariant-loop-i l = Looked l.file l.exports l.n l.spot l.last l.i l.marks × (length l.marks ≡ length l.initial.marks)
