-- For the code: the parts of the text, as it puts them together. Assumes nothing.
use Rattle.std.specs.Prelude.{Bool, true, false, List, [], ◌∷◌, ◌++◌, map, ℕ}
use Rattle.domains.specs.Domain.{slug}
use Rattle.policy.specs.View.{RuleView, silent, ruling, rule_of, seven}
use Rattle.policy.specs.declared.Policy.{Policy}
use Rattle.policy_text.specs.Writer.{stance_word, list_part, rule_line, rule_lines, unlines}

abbrev pub separator : Bool → List ℕ
separator true = 44 ∷ 32 ∷ []
separator false = 58 ∷ 32 ∷ []

-- a token with what separates it from those before it; nothing where there is none
abbrev pub token_form : Bool → List ℕ → List ℕ
token_form some [] = []
token_form some (x ∷ t) = separator some ++ (x ∷ t)

-- there was a token, or t is one
abbrev pub any_token : Bool → List ℕ → Bool
any_token true t = true
any_token false [] = false
any_token false (x ∷ t) = true

-- a rule's line with its LF, as the code puts it together
abbrev pub line_text : Bool → ℕ → List (List ℕ) → List ℕ
line_text t d ts = stance_word t ++ ((32 ∷ []) ++ (slug d ++ (list_part ts ++ (10 ∷ []))))

-- the lines of a policy's rules
abbrev pub rules_text : List ℕ → Policy → List ℕ
rules_text s p = unlines (rule_lines 0 (map (rule_of s) (seven p)))

-- a rule's line with its LF, nothing where there is no rule
abbrev pub rule_text : ℕ → RuleView → List ℕ
rule_text d silent = []
rule_text d (ruling t ts) = rule_line t d ts ++ (10 ∷ [])
