-- docs/RULES.md, "Texts" and "Policy writer": what a token, and a text that is written, tell; refused, all but number and place is zero.
-- Assumes nothing.
use Rattle.std.specs.Prelude.{ℕ, true, false, ◌≡◌, List, ltb}
use Rattle.refusal.specs.Pick.{pick}
use Rattle.refusal.specs.Said.{Said, accepted, refused, number_at, beside_at}
use Rattle.policy.specs.declared.Policy.{Policy}
use Rattle.output.specs.Bytes.{written_count, left}
use Rattle.policy_text.specs.Token.{Found, nothing, token, next_token}
use Rattle.told.specs.declared.policies.TokenTold.{TokenTold}
use Rattle.told.specs.declared.policies.WrittenTold.{WrittenTold}

abbrev pub number_in : {X : Type 0} → Said X → ℕ
number_in (accepted v) = 0
number_in (refused n p) = n

abbrev pub place_in : {X : Type 0} → Said X → ℕ
place_in (accepted v) = 0
place_in (refused n p) = number_at p

-- the offset beside 5
abbrev pub beside_in : {X : Type 0} → Said X → ℕ
beside_in (accepted v) = 0
beside_in (refused n p) = beside_at p

-- ---- its tokens, one after another
abbrev pub no_token : ℕ → ℕ → TokenTold
no_token n p = record { number = n; place = p; found = false; from = 0; len = 0; next = 0 }

abbrev pub token_told : Said Found → TokenTold
token_told (accepted nothing) = no_token 0 0
token_told (accepted (token at n next)) = record { number = 0; place = 0; found = true; from = at; len = n; next = next }
token_told (refused n p) = no_token n (number_at p)

-- of a number above 6 there is no domain, and no token
abbrev pub token_asked : List ℕ → Policy → ℕ → ℕ → Said Found
token_asked s p d from = pick (ltb d 7) (next_token s p d from) (accepted nothing)

-- ---- its text, written again
abbrev pub written_told : Said ℕ → WrittenTold
written_told (accepted n) = record { number = 0; place = 0; bytes = n }
written_told (refused n p) = record { number = n; place = number_at p; bytes = 0 }

-- the buffer was d and is x
pub record WriteTells (o : Said (List ℕ)) (d : List ℕ) (r : WrittenTold) (x : List ℕ) : Type 0 where
  pub answer-is : r ≡ written_told (written_count o)
  pub output-is : x ≡ left d o
