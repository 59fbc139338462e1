-- Domains and their numbers. Assumes nothing.
use mathlib.Core.Path.{◌≡◌, refl, sym, ap, ◌∙◌}
use mathlib.Core.Bool.{Bool, true, false, false≢true}
use mathlib.Core.List.{List, [], ◌∷◌}
use Prim.Native.Nat.{ℕ, ◌<◌}
use native.Mathlib.Omega.{arith}
use lib.Dec.{ltb}
use borrow.Author.Tests.{ltb-true, le-ltb}
use Rattle.refusal.specs.Pick.{pick, both}
use Rattle.text.specs.Find.{same}
use Rattle.domains.specs.declared.Domain.{Domain}
use Rattle.domains.specs.declared.Domain.TheVariants.{Filesystem, Environment, Clock, Network, Random, Stdio, Unknown}
use Rattle.domains.specs.Domain.{numbered, domain_number, Word, word, words, Perhaps, nothing, just, word_in, domain_of}

-- ---- a domain's number is below 7
pub data Small : Perhaps → Type 0 where
  no : Small nothing
  yes : {d : ℕ} → d < 7 → Small (just d)

small_words : List Word → Bool
small_words [] = true
small_words (word w d ∷ ws) = both (ltb d 7) (small_words ws)

word_small : (ws : List Word) (s : List ℕ) → small_words ws ≡ true → Small (word_in ws s)
unfolding word_in small_words
word_small [] s e = no
word_small (word w d ∷ ws) s e = by (same w s) (ltb d 7) refl e (word_small ws s)
  where
    by : (t u : Bool) → ltb d 7 ≡ u → both u (small_words ws) ≡ true → (small_words ws ≡ true → Small (word_in ws s))
        → Small (pick t (just d) (word_in ws s))
    by true true q e ih = yes (ltb-true d 7 q)
    by false true q e ih = ih e
    by t false q e ih = absurd (false≢true e)

pub domain-small : (s : List ℕ) → Small (domain_of s)
unfolding domain_of words small_words
domain-small s = word_small words s refl

-- ---- a domain is known by its number
abbrev pub numbered_as : ℕ → Domain
numbered_as n =
    pick (ltb n 1) Filesystem
    (pick (ltb n 2) Environment
    (pick (ltb n 3) Clock
    (pick (ltb n 4) Network
    (pick (ltb n 5) Random
    (pick (ltb n 6) Stdio
    Unknown)))))

pub back : (d : Domain) → numbered_as (domain_number d) ≡ d
back Filesystem = refl
back Environment = refl
back Clock = refl
back Network = refl
back Random = refl
back Stdio = refl
back Unknown = refl

pub same-domain : (a b : Domain) → domain_number a ≡ domain_number b → a ≡ b
same-domain a b e = sym (back a) ∙ ap numbered_as e ∙ back b

pub number_small : (d : Domain) → domain_number d < 7
number_small Filesystem = omega arith
number_small Environment = omega arith
number_small Clock = omega arith
number_small Network = omega arith
number_small Random = omega arith
number_small Stdio = omega arith
number_small Unknown = omega arith

-- ---- no domain has a number above 6
pub numbered_past : (n : ℕ) → 6 < n → numbered n ≡ nothing
unfolding numbered
numbered_past n h = rw (le-ltb n 7 (omega arith))
