-- `put_compared` meets its contract. Assumes nothing.
use mathlib.Core.Path.{refl}
use Rattle.output.proofs.Writing.{added_then}
use Rattle.reviewed.proofs.Reading.{compared-stops, compared-goes}
use Rattle.reviewed.proofs.Telling.{added-same}
use Rattle.reviewed.proofs.put_compared.Goals as goal

pub returns-in-Err-clause-added : goal.returns-in-Err-clause-added
returns-in-Err-clause-added c = added-same (compared-stops _ _ _ _ refl refl c.compare_modules.ensures c.in-Err.is) c.put_none.ensures.added

pub returns-in-Ok-clause-added : goal.returns-in-Ok-clause-added
returns-in-Ok-clause-added c =
    added-same (compared-goes _ _ _ _ refl refl c.compare_modules.ensures c.in-Ok.is)
    (added_then c.put_stand.ensures.added
    (added_then c.put_gone.ensures.added (added_then c.put_new.ensures.added c.put_verdict.ensures.added)))
