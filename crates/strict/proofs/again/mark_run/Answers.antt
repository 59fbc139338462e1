-- `strict::again::mark_run` meets its contract: what is left answers as the whole does. Assumes nothing.
use mathlib.Core.Path.{◌∙◌, ap}
use Rattle.strict.proofs.Marking.{falls, comes, run_start, run-err, run_on, run_end}
use Rattle.strict.specs.Again.{run_from, run_marks, entry_marks}
use Rattle.strict.proofs.again.mark_run.Goals as goal

pub returns-in_err-count : goal.returns-in_err-count
unfolding run_marks
returns-in_err-count c = falls _ _ _ c.in_err-count.ensures c.from_residual.ensures.1

pub loop-init : goal.loop-init
loop-init c = run_start (entry_marks _ _) _ _ _

pub returns-in_err-k : goal.returns-in_err-k
unfolding run_marks
returns-in_err-k c =
    comes _ c.in_ok-count.ensures
    (run-err (entry_marks _ _) _ _ _ _ _ _ c.loop-test.true c.in_err-k.ensures c.from_residual-in_err-k.ensures.1
    ∙ c.loop.invariant ∙ ap (run_from _ _ _) c.with_number-k.ensures)

pub loop-preserved : goal.loop-preserved
loop-preserved c = run_on (entry_marks _ _) _ _ _ _ c.loop-test.true c.in_ok-k.ensures ∙ c.loop.invariant

pub returns : goal.returns
unfolding run_marks
returns c =
    comes _ c.in_ok-count.ensures
    (run_end (entry_marks _ _) _ _ _ _ c.loop-test.false ∙ c.loop.invariant ∙ ap (run_from _ _ _) c.with_number-k.ensures)
