-- `strict::again::mark_limits` meets its contract. Assumes nothing.
use mathlib.Core.Path.{◌∙◌, ap}
use Rattle.strict.proofs.Marking.{comes, falls, found}
use Rattle.strict.specs.Again.{number_marks, limits_marks}
use Rattle.wasm.proofs.Flag.{even, odd}
use Rattle.strict.proofs.again.mark_limits.Goals as goal

pub returns-in_err-flag : goal.returns-in_err-flag
unfolding limits_marks
returns-in_err-flag c = falls _ _ _ (found _ c.in_err-flag.ensures) c.from_residual.ensures.1

pub returns-in_err-k : goal.returns-in_err-k
unfolding limits_marks
returns-in_err-k c =
    comes _ (found _ c.in_ok-flag.ensures)
    (falls _ _ _ (c.in_err-k.ensures ∙ ap (number_marks _ _) c.with_flag.ensures) c.from_residual-in_err-k.ensures.1)

pub returns-then-flag-eq0 : goal.returns-then-flag-eq0
unfolding limits_marks
returns-then-flag-eq0 c =
    comes _ (found _ c.in_ok-flag.ensures)
    (comes _ (c.in_ok-k.ensures ∙ ap (number_marks _ _) c.with_flag.ensures) (simp (even c.in_ok-flag.flag c.if-flag-eq0.true)))

pub returns : goal.returns
unfolding limits_marks
returns c =
    comes _ (found _ c.in_ok-flag.ensures)
    (comes _ (c.in_ok-k.ensures ∙ ap (number_marks _ _) c.with_flag.ensures)
    (simp (odd c.in_ok-flag.flag c.if-flag-eq0.false) c.mark_number-2.ensures))
