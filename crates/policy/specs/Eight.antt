-- docs/RULES.md, "Numbered answers": a policy handed in with its text. Of 15, rows 0 to 6 are its rules' ranges and row 7 its name's.
-- Assumes nothing.
use Rattle.std.specs.Prelude.{List, [], ◌∷◌, Option, Some, None as Nothing, ℕ, zero, suc, ◌+◌, ◌≤◌, ◌<◌, ltb, get_or, length}
use Rattle.refusal.specs.Pick.{pick}
use Rattle.refusal.specs.Sizes.{fits_in}
use Rattle.refusal.specs.Said.{Said, accepted, refused, follow, spot}
use Rattle.text.specs.Whole.{whole_text}
use Rattle.policy.specs.Reader.{slot}
use Rattle.policy.specs.declared.Stance.TheVariants.{None}
use Rattle.policy.specs.declared.Slot.{Slot}
use Rattle.policy.specs.declared.Policy.{Policy}

abbrev pub no_slot : Slot
no_slot = slot None 0 0

-- the slot of domain d
abbrev pub slot_of : Policy → ℕ → Slot
slot_of p d = get_or p.rules d no_slot

-- all eight are tested, whatever stance and mark say
unfoldable pub eight : Policy → List Slot
eight p =
    slot_of p 0
    ∷ slot_of p 1
    ∷ slot_of p 2
    ∷ slot_of p 3
    ∷ slot_of p 4
    ∷ slot_of p 5
    ∷ slot_of p 6
    ∷ slot None p.start p.size
    ∷ []

-- the index of the first range that leaves n bytes, as many as there are where none does
unfoldable pub first_bad : ℕ → List Slot → ℕ
first_bad n [] = zero
first_bad n (x ∷ xs) = pick (fits_in n x.from x.len) (suc (first_bad n xs)) zero

-- for the code: its row, of the eight
unfoldable pub bad_row : ℕ → Policy → Option ℕ
bad_row n p = pick (ltb (first_bad n (eight p)) 8) (Some (first_bad n (eight p))) Nothing

-- 15 for n bytes of text
unfoldable pub ranges_test : ℕ → Policy → Said (Unit {0})
ranges_test n p = pick (ltb (first_bad n (eight p)) 8) (refused 15 (spot (first_bad n (eight p)))) (accepted tt)

-- 14, 4 and 15 of a text and a policy that came from it
unfoldable pub policy_test : List ℕ → Policy → Said (Unit {0})
policy_test s p = follow (whole_text s) (λ ok. ranges_test (length s) p)

-- ---- for the code: every range lies within n bytes
abbrev pub SlotFits : ℕ → Slot → Type 0
SlotFits n x = x.from + x.len ≤ n

abbrev pub SlotsFit : ℕ → List Slot → Type 0
SlotsFit n xs = (i : ℕ) → i < 7 → SlotFits n (get_or xs i no_slot)
