-- docs/RULES.md, "Texts": what a policy says, as bytes: its name, its default, and for each domain stance and tokens. Assumes nothing.
use Rattle.std.specs.Prelude.{Bool, true, false, List, [], ◌∷◌, map, ℕ, eqb, take, drop, set, replicate}
use Rattle.refusal.specs.Pick.{pick}
use Rattle.refusal.specs.Said.{Said}
use Rattle.text.specs.Trim.{trim_of}
use Rattle.policy.specs.Directive.{Directive, blank, wrong, called, preset, plain, listed}
use Rattle.policy.specs.Reader.{read_with}
use Rattle.policy.specs.Eight.{slot_of}
use Rattle.policy.specs.declared.Stance.TheVariants.{None, Allow, Deny}
use Rattle.policy.specs.declared.Slot.{Slot}
use Rattle.policy.specs.declared.Policy.{Policy}

pub data RuleView : Type 0 where
  silent : RuleView
  ruling : Bool → List (List ℕ) → RuleView

pub record PolicyView : Type 0 where
  pub name : List ℕ
  pub permit : Bool
  pub rules : List RuleView

-- ---- the tokens of a list
-- split at commas: what stands before the first, and the parts after it
pub record Parts : Type 0 where
  pub head : List ℕ
  pub rest : List (List ℕ)

abbrev pub comma : Bool → ℕ → Parts → Parts
comma true x ps = record { head = []; rest = ps.head ∷ ps.rest }
comma false x ps = record { head = x ∷ ps.head; rest = ps.rest }

unfoldable pub split : List ℕ → Parts
split [] = record { head = []; rest = [] }
split (x ∷ s) = comma (eqb x 44) x (split s)

unfoldable pub commas : List ℕ → List (List ℕ)
commas s = (split s).head ∷ (split s).rest

-- without the empty ones
unfoldable pub full : List (List ℕ) → List (List ℕ)
full [] = []
full ([] ∷ ts) = full ts
full ((x ∷ t) ∷ ts) = (x ∷ t) ∷ full ts

-- split at commas, trimmed, empties dropped
unfoldable pub tokens : List ℕ → List (List ℕ)
tokens s = full (map trim_of (commas s))

-- ---- what a text means, of its lines alone
-- `default-deny`
abbrev pub no_name : List ℕ
no_name = 100 ∷ 101 ∷ 102 ∷ 97 ∷ 117 ∷ 108 ∷ 116 ∷ 45 ∷ 100 ∷ 101 ∷ 110 ∷ 121 ∷ []

unfoldable pub first_view : PolicyView
first_view = record { name = no_name; permit = false; rules = replicate 7 silent }

abbrev pub sets : ℕ → RuleView → PolicyView → PolicyView
sets d x v = record { name = v.name; permit = v.permit; rules = set v.rules d x }

unfoldable pub heed : Directive → PolicyView → PolicyView
heed blank v = v
heed (wrong k) v = v
heed (called p) v = record { name = p.bytes; permit = v.permit; rules = v.rules }
heed (preset t) v = record { name = v.name; permit = t; rules = v.rules }
heed (plain t d) v = sets d (ruling t []) v
heed (listed t d p) v = sets d (ruling t (tokens p.bytes)) v

unfoldable pub meaning : List ℕ → Said PolicyView
meaning s = read_with heed first_view s

-- ---- what the port's policy says, with its text
abbrev pub range : List ℕ → ℕ → ℕ → List ℕ
range s a n = take n (drop a s)

unfoldable pub rule_of : List ℕ → Slot → RuleView
rule_of s x =
    elim x.stance [
      | None ↦ silent
      | Allow ↦ ruling true (tokens (range s x.from x.len))
      | Deny ↦ ruling false (tokens (range s x.from x.len))
    ]

-- the rules of the seven domains
unfoldable pub seven : Policy → List Slot
seven p = slot_of p 0 ∷ slot_of p 1 ∷ slot_of p 2 ∷ slot_of p 3 ∷ slot_of p 4 ∷ slot_of p 5 ∷ slot_of p 6 ∷ []

unfoldable pub says : List ℕ → Policy → PolicyView
says s p =
    record {
      name = pick p.named (range s p.start p.size) no_name;
      permit = p.permit;
      rules = map (rule_of s) (seven p);
    }
