-- docs/RULES.md, "Texts" and "Policy writer": policies over the C interface; refused, all but number and place is zero. Assumes nothing.
use Rattle.std.specs.Prelude.{ℕ, List, [], ◌∷◌}
use Rattle.refusal.specs.Said.{Said, accepted, refused, number_at, follow}
use Rattle.policy.specs.Reader.{zero_policy, read_policy}
use Rattle.policy.specs.Eight.{slot_of}
use Rattle.policy.specs.declared.Stance.{Stance}
use Rattle.policy.specs.declared.Stance.TheVariants.{None, Allow, Deny}
use Rattle.policy.specs.declared.Slot.{Slot}
use Rattle.policy.specs.declared.Policy.{Policy}
use Rattle.policy_text.specs.Token.{Found}
use Rattle.policy_text.specs.Writer.{written}
use Rattle.told.specs.Policies.{token_asked}
use Rattle.capi.specs.declared.policies.RuleTold.{RuleTold}
use Rattle.capi.specs.declared.policies.PolicyTold.{PolicyTold}

-- ---- a policy that was read: ranges of the text
abbrev pub stance_number : Stance → ℕ
stance_number None = 0
stance_number Allow = 1
stance_number Deny = 2

abbrev pub rule_told : Slot → RuleTold
rule_told x = record { stance = stance_number x.stance; from = x.from; len = x.len }

abbrev pub policy_shown : ℕ → ℕ → Policy → PolicyTold
policy_shown n q p =
    record {
      number = n;
      place = q;
      named = p.named;
      start = p.start;
      size = p.size;
      permit = p.permit;
      rules =
          rule_told (slot_of p 0)
          ∷ rule_told (slot_of p 1)
          ∷ rule_told (slot_of p 2)
          ∷ rule_told (slot_of p 3)
          ∷ rule_told (slot_of p 4)
          ∷ rule_told (slot_of p 5)
          ∷ rule_told (slot_of p 6)
          ∷ [];
    }

abbrev pub policy_told : Said Policy → PolicyTold
policy_told (accepted p) = policy_shown 0 0 p
policy_told (refused n q) = policy_shown n (number_at q) zero_policy

-- the reader, then a token of what it read
abbrev pub token_read : List ℕ → ℕ → ℕ → Said Found
token_read s d from = follow (read_policy s) (λ p. token_asked s p d from)

-- the reader, then the writer of what it read
abbrev pub rewritten : List ℕ → ℕ → Said (List ℕ)
rewritten s room = follow (read_policy s) (λ p. written s p room)
