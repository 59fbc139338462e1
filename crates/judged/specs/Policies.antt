-- policy.rs with policies handed in as cells. Assumes nothing.
use Rattle.std.specs.Prelude.{ℕ, zero, suc, ◌+◌, not, false, List, [], ◌∷◌, eqb, ltb}
use Rattle.refusal.specs.Pick.{pick}
use Rattle.table.specs.Table.{cell_of}
use Rattle.policy.specs.Reader.{slot}
use Rattle.policy.specs.declared.Stance.{Stance}
use Rattle.policy.specs.declared.Stance.TheVariants.{None, Allow, Deny}
use Rattle.policy.specs.declared.Slot.{Slot}
use Rattle.policy.specs.declared.Policy.{Policy}
use Rattle.verdicts.specs.declared.Rule.{Rule}
use Rattle.verdicts.specs.Evaluate.{effective_of}
use Rattle.judged.specs.declared.policies.EffectiveTold.{EffectiveTold}

-- a policy that is handed in: 25 cells, named, start, size, permit, then stance, from and len of each rule
abbrev pub cell : List ℕ → ℕ → ℕ
cell l k = cell_of l 25 0 k

abbrev pub stance_at : ℕ → Stance
stance_at zero = None
stance_at (suc zero) = Allow
stance_at (suc (suc k)) = Deny

abbrev pub slot_at : List ℕ → ℕ → Slot
slot_at l k = slot (stance_at (cell l k)) (cell l (k + 1)) (cell l (k + 2))

unfoldable pub policy_in : List ℕ → Policy
policy_in l =
    record {
      named = not (eqb (cell l 0) 0);
      start = cell l 1;
      size = cell l 2;
      permit = not (eqb (cell l 3) 0);
      rules = slot_at l 4 ∷ slot_at l 7 ∷ slot_at l 10 ∷ slot_at l 13 ∷ slot_at l 16 ∷ slot_at l 19 ∷ slot_at l 22 ∷ [];
    }

abbrev pub effective_told : Rule → EffectiveTold
effective_told r = record { allow = r.allow; from = r.from; len = r.len }

-- the rule that holds for a domain; of a number above 6 there is no domain, and no rule
abbrev pub effective_asked : Policy → ℕ → EffectiveTold
effective_asked p d = pick (ltb d 7) (effective_told (effective_of p d)) (record { allow = false; from = 0; len = 0 })
