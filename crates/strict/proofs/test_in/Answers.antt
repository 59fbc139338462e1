-- `strict::test_in` meets its contract. Assumes nothing.
use mathlib.Core.Path.{◌∙◌, ap}
use Rattle.strict.proofs.Room.{sized-is, tested-good, tested-bad}
use Rattle.strict.specs.Rules.{tested_at}
use Rattle.strict.proofs.test_in.Goals as goal

pub returns-in_err-read_strict : goal.returns-in_err-read_strict
returns-in_err-read_strict g c =
    tested-bad _ _ _ _ _ c.in_err-read_strict.ensures.read c.from_residual.ensures.1 ∙ ap (tested_at _) (sized-is _ _ _ _)

pub returns : goal.returns
returns g c = tested-good _ _ _ _ c.in_ok-read_strict.ensures.read ∙ ap (tested_at _) (sized-is _ _ _ _)
