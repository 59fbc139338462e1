-- docs/RULES.md, "Texts": the tokens of a domain's list, told in a struct of numbers, and their ranges as bytes. Assumes nothing.
use Rattle.std.specs.Prelude.{ℕ, List, [], ◌∷◌, ltb, length}
use Rattle.refusal.specs.Pick.{pick}
use Rattle.refusal.specs.Said.{Said, accepted, refused, follow, Place, number_at}
use Rattle.refusal.specs.declared.Part.{Part}
use Rattle.table.specs.Table.{cells}
use Rattle.output.specs.Cells.{cell_bytes}
use Rattle.policy.specs.Reader.{read_policy}
use Rattle.policy.specs.declared.Policy.{Policy}
use Rattle.policy_text.specs.Token.{all_tokens}
use Rattle.listed.specs.declared.tokens.TokensTold.{TokensTold}

-- a refusal, or no token: all but number and place is zero
abbrev pub no_tokens : ℕ → Place → TokensTold
no_tokens n p = record { number = n; place = number_at p; count = 0; bytes = 0 }

-- k tokens, of which so many bytes were written
abbrev pub tokens_by : ℕ → Said ℕ → TokensTold
tokens_by k (accepted n) = record { number = 0; place = 0; count = k; bytes = n }
tokens_by k (refused n p) = no_tokens n p

-- a token's range: where it stands in the text, and its length
abbrev pub token_cells : Part → List ℕ
token_cells x = x.from ∷ x.len ∷ []

unfoldable pub tokens_bytes : List Part → List ℕ
tokens_bytes xs = cell_bytes (cells token_cells xs)

abbrev pub tokens_told : Said (List Part) → TokensTold
tokens_told (accepted xs) = tokens_by (length xs) (accepted (length (tokens_bytes xs)))
tokens_told (refused n p) = no_tokens n p

-- of a number above 6 there is no domain, and no token
abbrev pub tokens_asked : List ℕ → Policy → ℕ → Said (List Part)
tokens_asked s p d = pick (ltb d 7) (all_tokens s p d) (accepted [])

-- the reader, then the tokens of what it read
unfoldable pub tokens_read : List ℕ → ℕ → Said (List Part)
tokens_read s d = follow (read_policy s) (λ p. tokens_asked s p d)
