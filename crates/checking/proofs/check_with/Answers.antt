-- `check_with` meets its contract. Assumes nothing.
use Rattle.std.proofs.Common.{rules, ◌≡◌, Err, sym, arith}
use lib.Seq.{length-take-le}
use Rattle.conform.proofs.Found.{module-found, imports-in}
use Rattle.checking.proofs.Checking.{read-stops, read_goes}
use Rattle.checking.proofs.check_with.Goals as goal

pub returns-in_err-m : goal.returns-in_err-m
returns-in_err-m c =
    let e : c.from_residual.result ≡ Err c.in_err-m.field-0.0 = search rules in
    rw e (read-stops _ _ _ c.read_module.ensures.read c.in_err-m.was)

pub overflow_mul-end : goal.overflow_mul-end
overflow_mul-end c = omega (arith, imports-in (module-found _ _ c.read_module.ensures.read c.in_ok-m.was))

pub slice_bounds-rows-end : goal.slice_bounds-rows-end
slice_bounds-rows-end c =
    sym (length-take-le _ _ (omega (arith, imports-in (module-found _ _ c.read_module.ensures.read c.in_ok-m.was))))

pub returns : goal.returns
returns c = read_goes _ _ _ c.read_module.ensures.read c.in_ok-m.was c.hold_to.ensures
