-- A token is known by what its promise says of it. Assumes nothing.
use Rattle.std.specs.Prelude.{Option, Some, None, Result, Ok, Err}
use mathlib.Core.Path.{◌≡◌, refl, ap}
use Rattle.refusal.specs.Said.{Said, accepted, refused}
use Rattle.refusal.specs.declared.Refusal.{Refusal}
use Rattle.refusal.proofs.Known.{taken_back, refusal_of, known}
use Rattle.policy_text.specs.Token.{Found, nothing, token, found_token, said_token}
use Rattle.policy_text.specs.declared.token.Token.{Token}

-- the token that was found
abbrev found-back : Found → Option Token
found-back nothing = None
found-back (token f n x) = Some (record { part = record { from = f; len = n }; next = x })

found-is : (a : Option Token) → found-back (found_token a) ≡ a
found-is (Some t) = refl
found-is None = refl

pub found-known : (a b : Option Token) → found_token a ≡ found_token b → a ≡ b
found-known = taken_back found-back found-is

pub token-known : (a b : Result (Option Token) Refusal) → said_token a ≡ said_token b → a ≡ b
token-known = taken_back back is where
  back : Said Found → Result (Option Token) Refusal
  back (accepted f) = Ok (found-back f)
  back (refused n p) = Err (refusal_of n p)

  is : (a : Result (Option Token) Refusal) → back (said_token a) ≡ a
  is (Ok t) = ap Ok (found-is t)
  is (Err w) = ap Err (known w)
