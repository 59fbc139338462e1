-- What is claimed of the definitions: proofs/Enough proves the record. Assumes nothing.
use Rattle.std.specs.Prelude.{◌≡◌, true, List, ◌∷◌, [], ℕ, ◌+◌, ◌*◌, ◌≤◌, ◌<◌, length}
use Rattle.refusal.specs.Said.{accepted, refused, Place}
use Rattle.refusal.specs.Sizes.{text_limit}
use Rattle.text.specs.Find.{begins}
use Rattle.policy.specs.declared.Policy.{Policy}
use Rattle.policy.specs.Directive.{policy_w}
use Rattle.policy.specs.Reader.{read_policy}
use Rattle.policy.specs.View.{says}
use Rattle.policy_text.specs.Writer.{form}
use Rattle.report.specs.Words.{refused_w}
use Rattle.rewritten.specs.Printed.{printed_in, printed_of, enough}

pub record Printing : Type 0 where
  -- A policy is at most half again as long as the text that it was read from, and 36 bytes.
  pub longer-by-half : (s : List ℕ) (p : Policy) → read_policy s ≡ accepted p → 2 * length (form (says s p)) ≤ 3 * length s + 72
  -- So 98,340 bytes hold all that is printed; and with so much room it is a function of the text alone.
  pub enough-room : (s : List ℕ) → length (printed_of s) ≤ enough
  pub same-in-room : (s : List ℕ) (room : ℕ) → enough ≤ room → printed_in room s ≡ printed_of s
  -- A policy begins with `policy `, a refusal with `refused `: the two are told apart by their first byte.
  pub policy-begins : (s : List ℕ) (p : Policy) → read_policy s ≡ accepted p → begins policy_w (printed_of s) ≡ true
  pub refusal-begins : (s : List ℕ) (n : ℕ) (p : Place) → read_policy s ≡ refused n p → begins refused_w (printed_of s) ≡ true
  -- A text of more than 65,536 bytes: `refused 14 at 0`, LF.
  pub too_long : (s : List ℕ) → text_limit < length s
      → printed_of s ≡ 114 ∷ 101 ∷ 102 ∷ 117 ∷ 115 ∷ 101 ∷ 100 ∷ 32 ∷ 49 ∷ 52 ∷ 32 ∷ 97 ∷ 116 ∷ 32 ∷ 48 ∷ 10 ∷ []
