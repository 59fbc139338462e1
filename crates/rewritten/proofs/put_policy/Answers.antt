-- `put_policy` meets its contract. Assumes nothing.
use Rattle.std.proofs.Common.{rules, ◌≡◌, Err}
use mathlib.Core.Path.{sym, ap, ◌∙◌}
use Rattle.refusal.specs.Said.{said_by}
use Rattle.rewritten.proofs.Telling.{tells-stop, tells-go}
use Rattle.rewritten.proofs.put_policy.Goals as goal

pub returns-in_err-p : goal.returns-in_err-p
returns-in_err-p c =
    let e : c.from_residual.result ≡ Err c.in_err-p.field-0.0 = search rules in
    rw e (tells-stop _ (sym c.read_policy.ensures ∙ ap said_by c.in_err-p.was))

pub returns : goal.returns
returns c = tells-go _ (sym c.read_policy.ensures ∙ ap said_by c.in_ok-p.was) c.write_policy.ensures
