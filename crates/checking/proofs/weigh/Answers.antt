-- `weigh` meets its contract. Assumes nothing.
use Rattle.std.proofs.Common.{rules, ◌≡◌, Err, refl}
use Rattle.checking.proofs.Checking.{weigh-stops, weigh-goes}
use Rattle.checking.proofs.weigh.Goals as goal

pub returns-in_err-k : goal.returns-in_err-k
returns-in_err-k c =
    let e : c.from_residual.result ≡ Err c.in_err-k.field-0.0 = search rules in
    rw e (weigh-stops _ _ _ _ _ refl refl c.requirements_from_module.ensures c.in_err-k.was)

pub returns : goal.returns
returns c = weigh-goes _ _ _ _ _ refl refl c.requirements_from_module.ensures c.in_ok-k.was c.evaluate_domains.ensures
