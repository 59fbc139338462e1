-- `put_token` meets its contract. Assumes nothing.
use Rattle.std.proofs.Common.{rules, false, true, ◌≡◌, sym, ◌∙◌}
use borrow.Author.Tests.{eqb-true, eqb-false}
use Rattle.output.proofs.Writing.{added_none, added_then}
use Rattle.policy_text.specs.Writing.{separator}
use Rattle.policy_text.proofs.WriteLaws.{token-none, token-some}
use Rattle.policy_text.proofs.put_token.Goals.{then-some, else-some}
use Rattle.policy_text.proofs.put_token.Goals as goal

pub returns-after-some-clause-added : goal.returns-after-some-clause-added
returns-after-some-clause-added c =
    let a = c.args in
    let full : c.is_empty.result ≡ false = search rules in
    let some = eqb-false _ _ (sym c.is_empty.ensures ∙ full) in
    let said : c.if-some.put.now ≡ separator a.some = elim c.if-some.branch [
      | then-some w ↦ rw (w.put-is, w.if-some.true)
      | else-some w ↦ rw (w.put-is, w.if-some.false)
    ] in
    rw (token-some a.some a.token.now some, ← said) (added_then c.put.ensures.added c.put-then-not-is_empty.ensures.added)

pub returns-else-not-is_empty-clause-added : goal.returns-else-not-is_empty-clause-added
returns-else-not-is_empty-clause-added c =
    let a = c.args in
    let empty : c.is_empty.result ≡ true = search rules in
    let none = eqb-true _ _ (sym c.is_empty.ensures ∙ empty) in
    rw (token-none a.some a.token.now none) (added_none a.out.now)
