-- docs/RULES.md, "Texts": the tokens of a domain's list, one after another, and all at once. Assumes nothing.
use Rattle.std.specs.Prelude.{List, [], ◌∷◌, map, Option, Some, None, Result, Ok, Err, ℕ, zero, suc, ◌+◌, eqb, ltb, length, take}
use Rattle.refusal.specs.Pick.{pick}
use Rattle.refusal.specs.Said.{Said, accepted, refused_by, follow}
use Rattle.refusal.specs.declared.Part.{Part}
use Rattle.refusal.specs.declared.Refusal.{Refusal}
use Rattle.text.specs.Find.{index_of}
use Rattle.text.specs.Trim.{trimmed}
use Rattle.text.specs.Piece.{Piece, trim, bytes_between}
use Rattle.policy.specs.Eight.{policy_test}
use Rattle.policy.specs.View.{commas}
use Rattle.verdicts.specs.Evaluate.{effective_of}
use Rattle.policy.specs.declared.Policy.{Policy}
use Rattle.policy_text.specs.declared.token.Token.{Token}

-- a token: where it stands, its length, and where the next part begins
pub data Found : Type 0 where
  nothing : Found
  token : ℕ → ℕ → ℕ → Found

-- what stands before the first comma
abbrev pub before_comma : List ℕ → List ℕ
before_comma s = take (index_of 44 s) s

-- how far it is past that comma, or to the end
abbrev pub step : List ℕ → ℕ
step s = pick (ltb (index_of 44 s) (length s)) (index_of 44 s + 1) (length s)

-- the first part that is not empty once it is trimmed, of bytes that begin at `at`; k of them are left of a part under way
unfoldable pub token_from : ℕ → ℕ → List ℕ → Found
token_from at k [] = nothing
token_from at zero (x ∷ s) =
    pick (eqb (trimmed (before_comma (x ∷ s))).len 0)
    (token_from (suc at) (index_of 44 (x ∷ s)) s)
    (token (at + (trimmed (before_comma (x ∷ s))).from) (trimmed (before_comma (x ∷ s))).len (at + step (x ∷ s)))
token_from at (suc k) (x ∷ s) = token_from (suc at) k s

-- an offset clamped into the range from a to e
abbrev pub clamp_to : ℕ → ℕ → ℕ → ℕ
clamp_to a e from = pick (ltb from a) a (pick (ltb e from) e from)

-- the first token at or after an offset, in the list from a to e
unfoldable pub token_in : List ℕ → ℕ → ℕ → ℕ → Found
token_in s a e from = token_from (clamp_to a e from) 0 (bytes_between s (clamp_to a e from) e)

-- of the list of domain d: 14, 4, 15 of the text and the policy, then the token
unfoldable pub next_token : List ℕ → Policy → ℕ → ℕ → Said Found
next_token s p d from =
    follow (policy_test s p)
    (λ ok. accepted (token_in s (effective_of p d).from ((effective_of p d).from + (effective_of p d).len) from))

abbrev pub found_token : Option Token → Found
found_token (Some t) = token t.part.from t.part.len t.next
found_token None = nothing

abbrev pub said_token : Result (Option Token) Refusal → Said Found
said_token (Ok t) = accepted (found_token t)
said_token (Err why) = refused_by why

-- ---- all of them
-- parts that stand one after another from `at` on, a comma after each
unfoldable pub parts_placed : ℕ → List (List ℕ) → List Piece
parts_placed at [] = []
parts_placed at (t ∷ ts) = (record { at = at; bytes = t }) ∷ parts_placed (at + length t + 1) ts

-- the ranges of those that are not empty
unfoldable pub ranges : List Piece → List Part
ranges [] = []
ranges (p ∷ ps) = pick (eqb (length p.bytes) 0) (ranges ps) (record { from = p.at; len = length p.bytes } ∷ ranges ps)

-- of bytes that begin at `at`: split at commas, trimmed, empties dropped
unfoldable pub tokens_from : ℕ → List ℕ → List Part
tokens_from at s = ranges (map trim (parts_placed at (commas s)))

-- in the list from a to e
abbrev pub tokens_in : List ℕ → ℕ → ℕ → List Part
tokens_in s a e = tokens_from a (bytes_between s a e)

-- of the list of domain d: 14, 4, 15 of the text and the policy, then the tokens
unfoldable pub all_tokens : List ℕ → Policy → ℕ → Said (List Part)
all_tokens s p d =
    follow (policy_test s p)
    (λ ok. accepted (tokens_in s (effective_of p d).from ((effective_of p d).from + (effective_of p d).len)))
