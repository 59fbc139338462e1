-- `first_token` meets its contract. Assumes nothing.
use mathlib.Core.Path.{ap, ◌∙◌}
use Prim.Native.Nat.{ℕ}
use mathlib.Core.List.{List}
use native.Mathlib.Omega.{arith}
use Rattle.policy_text.specs.Token.{token_from}
use Rattle.policy_text.proofs.TokenLaws.{whole-rest}
use Rattle.policy_text.proofs.token.first_token.Goals as goal

pub returns-then-s-end : goal.returns-then-s-end
returns-then-s-end c =
    let a = c.args in
    c.token_at.ensures
    ∙ ap (λ (b : List ℕ). token_from a.from 0 b) (whole-rest a.s.now a.from a.end (omega arith))
