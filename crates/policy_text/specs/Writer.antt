-- docs/RULES.md, "Policy writer": the text of a policy, and what is written of it into a lent buffer. Assumes nothing.
use Rattle.std.specs.Prelude.{Bool, true, false, List, [], ◌∷◌, ◌++◌, ℕ, suc, length, Result}
use Rattle.refusal.specs.declared.Refusal.{Refusal}
use Rattle.refusal.specs.Said.{Said, follow}
use Rattle.domains.specs.Domain.{slug}
use Rattle.policy.specs.Directive.{policy_w, default_w, allow, deny}
use Rattle.policy.specs.View.{RuleView, silent, ruling, PolicyView, says}
use Rattle.policy.specs.Eight.{policy_test}
use Rattle.policy.specs.declared.Policy.{Policy}
use Rattle.output.specs.Bytes.{room_for, WriterTells}

unfoldable pub stance_word : Bool → List ℕ
stance_word true = allow
stance_word false = deny

-- `policy "NAME"`
unfoldable pub name_line : List ℕ → List ℕ
name_line n = policy_w ++ 34 ∷ (n ++ 34 ∷ [])

unfoldable pub default_line : Bool → List ℕ
default_line t = default_w ++ stance_word t

-- the tokens joined by `, ` after `: `
unfoldable pub joined : List (List ℕ) → List ℕ
joined [] = []
joined (t ∷ ts) = 44 ∷ 32 ∷ (t ++ joined ts)

unfoldable pub list_part : List (List ℕ) → List ℕ
list_part [] = []
list_part (t ∷ ts) = 58 ∷ 32 ∷ (t ++ joined ts)

unfoldable pub rule_line : Bool → ℕ → List (List ℕ) → List ℕ
rule_line t d ts = stance_word t ++ 32 ∷ (slug d ++ list_part ts)

-- the explicit rules from domain d on
unfoldable pub rule_lines : ℕ → List RuleView → List (List ℕ)
rule_lines d [] = []
rule_lines d (silent ∷ rs) = rule_lines (suc d) rs
rule_lines d (ruling t ts ∷ rs) = rule_line t d ts ∷ rule_lines (suc d) rs

unfoldable pub form_lines : PolicyView → List (List ℕ)
form_lines v = name_line v.name ∷ default_line v.permit ∷ rule_lines 0 v.rules

-- LF after each line
unfoldable pub unlines : List (List ℕ) → List ℕ
unlines [] = []
unlines (l ∷ ls) = l ++ 10 ∷ unlines ls

unfoldable pub form : PolicyView → List ℕ
form v = unlines (form_lines v)

-- ---- what is written into so much room
-- of a policy and its text: 14, 4, 15, then 16
unfoldable pub written : List ℕ → Policy → ℕ → Said (List ℕ)
written s p room = follow (policy_test s p) (λ ok. room_for (form (says s p)) room)

-- the promise: the answer, and the buffer, which was d and is x
abbrev pub Writes : List ℕ → Policy → List ℕ → Result ℕ Refusal → List ℕ → Type 0
Writes s p d r x = WriterTells (written s p (length d)) d r x
