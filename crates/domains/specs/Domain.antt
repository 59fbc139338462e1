-- docs/RULES.md, "Domains and verdicts": the domains, their numbers and their slugs. Assumes nothing.
use Rattle.std.specs.Prelude.{List, [], ◌∷◌, ℕ, ltb, get_or, Option, Some, None, map}
use Rattle.std.specs.Borrow.{Bor}
use Rattle.refusal.specs.Pick.{pick}
use Rattle.text.specs.Find.{same}
use Rattle.domains.specs.declared.Domain.{Domain}
use Rattle.domains.specs.declared.Domain.TheVariants.{Filesystem, Environment, Clock, Network, Random, Stdio, Unknown}

abbrev pub domain_number : Domain → ℕ
domain_number Filesystem = 0
domain_number Environment = 1
domain_number Clock = 2
domain_number Network = 3
domain_number Random = 4
domain_number Stdio = 5
domain_number Unknown = 6

-- a domain's number, or nothing
pub data Perhaps : Type 0 where
  nothing : Perhaps
  just : ℕ → Perhaps

abbrev pub found : Option Domain → Perhaps
found (Some d) = just (domain_number d)
found None = nothing

-- the domain with a number
unfoldable pub numbered : ℕ → Perhaps
numbered n = pick (ltb n 7) (just n) nothing

-- ---- the words
abbrev pub fs : List ℕ
fs = 102 ∷ 115 ∷ []

abbrev pub env : List ℕ
env = 101 ∷ 110 ∷ 118 ∷ []

abbrev pub clock : List ℕ
clock = 99 ∷ 108 ∷ 111 ∷ 99 ∷ 107 ∷ []

abbrev pub network : List ℕ
network = 110 ∷ 101 ∷ 116 ∷ 119 ∷ 111 ∷ 114 ∷ 107 ∷ []

abbrev pub random : List ℕ
random = 114 ∷ 97 ∷ 110 ∷ 100 ∷ 111 ∷ 109 ∷ []

abbrev pub stdio : List ℕ
stdio = 115 ∷ 116 ∷ 100 ∷ 105 ∷ 111 ∷ []

abbrev pub unknown : List ℕ
unknown = 117 ∷ 110 ∷ 107 ∷ 110 ∷ 111 ∷ 119 ∷ 110 ∷ []

abbrev pub net : List ℕ
net = 110 ∷ 101 ∷ 116 ∷ []

abbrev pub rand : List ℕ
rand = 114 ∷ 97 ∷ 110 ∷ 100 ∷ []

-- the slugs in domain order
unfoldable pub slugs : List (List ℕ)
slugs = fs ∷ env ∷ clock ∷ network ∷ random ∷ stdio ∷ unknown ∷ []

unfoldable pub slug : ℕ → List ℕ
unfolding slugs
slug d = get_or slugs d []

pub data Word : Type 0 where
  word : List ℕ → ℕ → Word

-- each word for a domain, with the domain's number: the slugs, then the aliases
unfoldable pub words : List Word
words =
    word fs 0
    ∷ word env 1
    ∷ word clock 2
    ∷ word network 3
    ∷ word random 4
    ∷ word stdio 5
    ∷ word unknown 6
    ∷ word net 3
    ∷ word rand 4
    ∷ []

unfoldable pub word_in : List Word → List ℕ → Perhaps
word_in [] s = nothing
word_in (word w d ∷ ws) s = pick (same w s) (just d) (word_in ws s)

-- a table of words, a domain beside each
abbrev pub table_words : List (Bor (List ℕ) × Domain) → List Word
table_words table = map (λ row. word row.0.now (domain_number row.1)) table

-- the domain that a word names
unfoldable pub domain_of : List ℕ → Perhaps
unfolding words
domain_of s = word_in words s
