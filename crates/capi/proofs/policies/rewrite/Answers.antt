-- `rewrite` meets its contract. Assumes nothing.
use lib.ListN.{length}
use Rattle.std.proofs.lemmas.Result.{err_from_is_err_and}
use Rattle.policy.specs.declared.Policy.{Policy}
use Rattle.policy_text.specs.Writer.{written}
use Rattle.policy_text.proofs.Asking.{read-stops, read_goes}
use Rattle.capi.proofs.Telling.{write-stops, write-goes}
use Rattle.capi.proofs.policies.rewrite.Goals as goal

pub returns-in_err-p : goal.returns-in_err-p
returns-in_err-p c =
    let g = c.args in
    let p = err_from_is_err_and c.from_residual.result c.from_residual.ensures.1 in
    rw (p.1, p.2)
    (write-stops (read-stops (λ (p : Policy). written g.text.now p (length g.out.now)) _ _ c.read_policy.ensures c.in_err-p.was))

pub returns : goal.returns
returns c =
    let g = c.args in
    write-goes (read_goes (λ (p : Policy). written g.text.now p (length g.out.now)) _ _ c.read_policy.ensures c.in_ok-p.was)
    c.write_policy.ensures
