-- docs/RULES.md, "Texts": a policy's text read, line after line, into the port's policy: ranges of the text. Assumes nothing.
use Rattle.std.specs.Prelude.{Bool, true, false, List, [], ◌∷◌, ℕ, zero, suc, ◌+◌, length, set, replicate}
use Rattle.refusal.specs.Said.{Said, accepted, refused, spot, follow}
use Rattle.text.specs.Whole.{whole_text}
use Rattle.text.specs.Piece.{Piece}
use Rattle.policy.specs.Piece.{lines_of}
use Rattle.policy.specs.Directive.{Directive, blank, wrong, called, preset, plain, listed, policy_directive, fault}
use Rattle.policy.specs.declared.Stance.{Stance}
use Rattle.policy.specs.declared.Stance.TheVariants.{None, Allow, Deny}
use Rattle.policy.specs.declared.Slot.{Slot}
use Rattle.policy.specs.declared.Policy.{Policy}

-- line after line from number n, with a state; the first fault ends it, at its line
module _ {S : Type 0} (obey : Directive → S → S) where
  unfoldable pub run : ℕ → S → List Piece → Said S
  run n st [] = accepted st
  run n st (p ∷ ps) =
      elim (fault (policy_directive p)) [ zero ↦ run (n + 1) (obey (policy_directive p) st) ps | suc k ↦ refused (suc k) (spot n) ]

  -- the text as a whole, then its lines
  unfoldable pub read_with : S → List ℕ → Said S
  read_with st s = follow (whole_text s) (λ ok. run 1 st (lines_of s))

-- ---- the policy
abbrev pub slot : Stance → ℕ → ℕ → Slot
slot t a n = record { stance = t; from = a; len = n }

-- no name, default deny, no rule
unfoldable pub zero_policy : Policy
zero_policy = record { named = false; start = 0; size = 0; permit = false; rules = replicate 7 (slot None 0 0) }

unfoldable pub stance_of : Bool → Stance
stance_of true = Allow
stance_of false = Deny

abbrev pub with_rule : ℕ → Slot → Policy → Policy
with_rule d x v = record { named = v.named; start = v.start; size = v.size; permit = v.permit; rules = set v.rules d x }

-- each directive takes the place of an earlier one: a name, a default, or a domain's rule with its list
unfoldable pub obey : Directive → Policy → Policy
obey blank v = v
obey (wrong k) v = v
obey (called p) v = record { named = true; start = p.at; size = length p.bytes; permit = v.permit; rules = v.rules }
obey (preset t) v = record { named = v.named; start = v.start; size = v.size; permit = t; rules = v.rules }
obey (plain t d) v = with_rule d (slot (stance_of t) 0 0) v
obey (listed t d p) v = with_rule d (slot (stance_of t) p.at (length p.bytes)) v

unfoldable pub read_policy : List ℕ → Said Policy
read_policy s = read_with obey zero_policy s

-- the policy that was read, the zero policy where none was
abbrev pub policy_of : Said Policy → Policy
policy_of (accepted p) = p
policy_of (refused n p) = zero_policy
