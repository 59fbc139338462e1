-- `names_differ` meets its contract: it calls itself at most once, for more marks and the sort. Assumes nothing.
use mathlib.Core.Path.{sym}
use Rattle.strict.proofs.Newness.{one-differs}
use Rattle.strict.proofs.rules.+names_differ.Goals as goal

pub returns-then-n-lt2 : goal.returns-then-n-lt2
returns-then-n-lt2 t c = sym (one-differs _ _ _ c.if-n-lt2.true)
