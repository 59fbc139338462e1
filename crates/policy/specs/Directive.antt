-- docs/RULES.md, "Texts": what a line of a policy says. Assumes nothing.
use Rattle.std.specs.Prelude.{Bool, true, false, List, [], ◌∷◌, ℕ, eqb, ltb, length}
use Rattle.refusal.specs.Pick.{pick}
use Rattle.text.specs.Find.{index_of, begins, same}
use Rattle.domains.specs.Domain.{Perhaps, nothing, just, domain_of}
use Rattle.text.specs.Piece.{Piece, beyond, trim}
use Rattle.policy.specs.Piece.{until, past_byte, bare}

-- the directive words, each with its one space, and the two words for a default
abbrev pub policy_w : List ℕ
policy_w = 112 ∷ 111 ∷ 108 ∷ 105 ∷ 99 ∷ 121 ∷ 32 ∷ []

abbrev pub default_w : List ℕ
default_w = 100 ∷ 101 ∷ 102 ∷ 97 ∷ 117 ∷ 108 ∷ 116 ∷ 32 ∷ []

abbrev pub allow_w : List ℕ
allow_w = 97 ∷ 108 ∷ 108 ∷ 111 ∷ 119 ∷ 32 ∷ []

abbrev pub deny_w : List ℕ
deny_w = 100 ∷ 101 ∷ 110 ∷ 121 ∷ 32 ∷ []

abbrev pub allow : List ℕ
allow = 97 ∷ 108 ∷ 108 ∷ 111 ∷ 119 ∷ []

abbrev pub deny : List ℕ
deny = 100 ∷ 101 ∷ 110 ∷ 121 ∷ []

-- nothing; a fault, by its number; a name; a default; a rule for a domain, without a list or with one
pub data Directive : Type 0 where
  blank : Directive
  wrong : ℕ → Directive
  called : Piece → Directive
  preset : Bool → Directive
  plain : Bool → ℕ → Directive
  listed : Bool → ℕ → Piece → Directive

unfoldable pub defaulted : List ℕ → Directive
defaulted s = pick (same allow s) (preset true) (pick (same deny s) (preset false) (wrong 7))

unfoldable pub plain_by : Bool → Perhaps → Directive
plain_by t nothing = wrong 8
plain_by t (just d) = plain t d

unfoldable pub listed_by : Bool → Perhaps → Piece → Directive
listed_by t nothing p = wrong 8
listed_by t (just d) p = listed t d p

-- a domain up to the first `:`, trimmed, then its list
unfoldable pub rule_directive : Bool → Piece → Directive
rule_directive t b =
    pick (ltb (index_of 58 b.bytes) (length b.bytes))
    (listed_by t (domain_of (trim (until 58 b)).bytes) (past_byte 58 b))
    (plain_by t (domain_of (trim b).bytes))

unfoldable pub policy_worded : Piece → Directive
policy_worded c =
    pick (begins policy_w c.bytes) (called (bare (trim (beyond 7 c))))
    (pick (begins default_w c.bytes) (defaulted (trim (beyond 8 c)).bytes)
    (pick (begins allow_w c.bytes) (rule_directive true (beyond 6 c))
    (pick (begins deny_w c.bytes) (rule_directive false (beyond 5 c))
    (wrong 6))))

unfoldable pub policy_spoken : Piece → Directive
policy_spoken c = pick (eqb (length c.bytes) 0) blank (policy_worded c)

-- a line without its comment, from the first `#` on, trimmed
unfoldable pub policy_core : Piece → Piece
policy_core p = trim (until 35 p)

unfoldable pub policy_directive : Piece → Directive
policy_directive p = policy_spoken (policy_core p)

-- the number of a fault, 0 where there is none
unfoldable pub fault : Directive → ℕ
fault blank = 0
fault (wrong k) = k
fault (called p) = 0
fault (preset t) = 0
fault (plain t d) = 0
fault (listed t d p) = 0
