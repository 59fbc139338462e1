use Prim.Native.Nat.{◌-◌}
use mathlib.Core.Path.{◌≡◌}
use Rattle.strict.specs.Again.{entry_marks, run_from}
use Rattle.strict.proofs.again.mark_run.Given as goal

abbrev pub invariant-loop : goal.invariant-loop
invariant-loop l =
    run_from (entry_marks l.which l.s) (l.count - l.counter) l.c.at l.k
    ≡ run_from (entry_marks l.which l.s) l.count l.initial.c.at l.initial.k
