-- What the claims speak of, seen on files of a few bytes: one that replaces another, two that do not, and that no policy tells two apart of
-- which neither replaces the other. proofs/Examples computes each from the bytes. Assumes nothing.
use Rattle.std.specs.Prelude.{◌≡◌, ◌↔◌, false, List, [], ◌∷◌, ◌++◌, ℕ}
use Rattle.refusal.specs.Said.{accepted}
use Rattle.policy.specs.Directive.{default_w, allow}
use Rattle.differences.specs.Compared.{verdict_on}
use Rattle.listed.specs.Comparisons.{Comparison, comparison}
use Rattle.standin.specs.Builds.{Clear, Replaces}

-- the one call is accepted, and says that the second file cannot replace the first
pub record Breaks (f g : List ℕ) : Type 0 where
  pub all : Comparison
  pub answers : comparison f g ≡ accepted all
  pub says : (verdict_on all.lists).compatible ≡ false

-- ---- files
abbrev pub module_header : List ℕ
module_header = 0x00 ∷ 0x61 ∷ 0x73 ∷ 0x6d ∷ 0x01 ∷ 0x00 ∷ 0x00 ∷ 0x00 ∷ []

-- section 2 with the function `f` of a module whose name is one byte, which nothing classifies: its domain is unknown
abbrev pub one_need : ℕ → List ℕ
one_need c = 0x02 ∷ 0x07 ∷ 0x01 ∷ 0x01 ∷ c ∷ 0x01 ∷ 0x66 ∷ 0x00 ∷ 0x00 ∷ []

-- section 7 with the function `a`; with `a` and `b`
abbrev pub export_a : List ℕ
export_a = 0x07 ∷ 0x05 ∷ 0x01 ∷ 0x01 ∷ 0x61 ∷ 0x00 ∷ 0x00 ∷ []

abbrev pub export_both : List ℕ
export_both = 0x07 ∷ 0x09 ∷ 0x02 ∷ 0x01 ∷ 0x61 ∷ 0x00 ∷ 0x00 ∷ 0x01 ∷ 0x62 ∷ 0x00 ∷ 0x00 ∷ []

-- `m`.`f` is imported and `a` exported; `b` is exported too; `n`.`f` is imported instead
abbrev pub approved : List ℕ
approved = module_header ++ one_need 0x6d ++ export_a

abbrev pub wider : List ℕ
wider = module_header ++ one_need 0x6d ++ export_both

abbrev pub elsewhere : List ℕ
elsewhere = module_header ++ one_need 0x6e ++ export_a

pub record Seen : Type 0 where
  -- An export more: it can replace the file.
  pub stands : Replaces approved wider
  -- An export less: it cannot.
  pub loses : Breaks wider approved
  -- A pair of domain and source more: it cannot either, whichever of the two is the baseline.
  pub adds : Breaks approved elsewhere
  pub adds_too : Breaks elsewhere approved
  -- But both need the domain unknown alone, so no text passes the one and not the other: that the policies are kept is not enough for a
  -- replacement.
  pub alike : (text : List ℕ) → Clear approved text ↔ Clear elsewhere text
  -- Under `default allow` the file passes; under a text of no line, which denies, it does not.
  pub passes : Clear approved (default_w ++ allow)
  pub fails : Clear approved [] → ⊥
