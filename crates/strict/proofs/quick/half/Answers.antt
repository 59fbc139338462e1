-- `strict::quick::half` meets its contract. Assumes nothing.
use Rattle.strict.proofs.Marking.{found}
use Rattle.strict.proofs.Newness.{half-found, half-none}
use mathlib.Core.Path.{sym}
use Rattle.strict.proofs.quick.half.Goals as goal

pub returns-in-Ok : goal.returns-in-Ok
returns-in-Ok c = half-found _ _ (sym (found _ c.in-Ok.ensures))

pub returns-in-Err : goal.returns-in-Err
returns-in-Err c = half-none _ _ (sym (found _ c.in-Err.ensures))
