-- What the claims speak of, seen on files of a few bytes: a series whose ends hide what came and went, two files that can replace each
-- other, and two texts of which one allows all that the other allows. proofs/Examples computes each from the bytes. Assumes nothing.
use Rattle.std.specs.Prelude.{◌≡◌, List, [], ◌∷◌, ◌++◌, ℕ}
use Rattle.refusal.specs.Said.{accepted}
use Rattle.domains.specs.Domain.{slug}
use Rattle.policy.specs.Directive.{allow_w}
use Rattle.differences.specs.declared.Change.TheVariants.{Removed, Added}
use Rattle.differences.specs.View.{ExportKey, Need, Row}
use Rattle.differences.specs.Differences.{Entry, entry}
use Rattle.listed.specs.Comparisons.{Comparison, comparison}
use Rattle.standin.specs.Passing.{witness}
use Rattle.standin.specs.Builds.{Clear, Replaces}
use Rattle.standin.specs.Examples.{module_header, one_need, approved, wider, elsewhere}
use Rattle.series.specs.Steps.{FileSeries}
use Rattle.series.specs.Policies.{sole}

-- the one call is accepted for two files, and gives these lists of exports and of pairs
pub record Gives (f g : List ℕ) (exports : List (Entry ExportKey)) (needs : List (Entry Need)) : Type 0 where
  pub all : Comparison
  pub answers : comparison f g ≡ accepted all
  pub exports-are : all.lists.exports ≡ exports
  pub needs-are : all.lists.needs ≡ needs

-- section 7 with the functions `b` and `a`; the file `wider` with its exports in that order
abbrev pub export_turned : List ℕ
export_turned = 0x07 ∷ 0x09 ∷ 0x02 ∷ 0x01 ∷ 0x62 ∷ 0x00 ∷ 0x00 ∷ 0x01 ∷ 0x61 ∷ 0x00 ∷ 0x00 ∷ []

abbrev pub turned : List ℕ
turned = module_header ++ one_need 0x6d ++ export_turned

-- the function `b`, exported as row i; the pair of unknown and a module whose name is one byte, imported as row 0
abbrev pub export_b : ℕ → Row ExportKey
export_b i = record { at = i; key = record { name = 0x62 ∷ []; kind = 0 } }

abbrev pub unknown_from : ℕ → Row Need
unknown_from c = record { at = 0; key = record { domain = 6; source = c ∷ [] } }

-- `allow clock`; and `default allow`, LF, `deny network`
abbrev pub clock_alone : List ℕ
clock_alone = allow_w ++ slug 2

abbrev pub all_but_network : List ℕ
all_but_network = witness 3

pub record SeriesSeen : Type 0 where
  -- A series of four files.
  pub four : FileSeries wider (elsewhere ∷ turned ∷ approved ∷ [])
  -- From the first to the last the export `b` is removed, and nothing else changes.
  pub between : Gives wider approved (entry Removed (export_b 1) ∷ []) []
  -- It is removed by the first step and again by the third. The pair of unknown and `n` comes and goes, which the ends hide.
  pub step1 : Gives wider elsewhere (entry Removed (export_b 1) ∷ [])
      (entry Removed (unknown_from 0x6d) ∷ entry Added (unknown_from 0x6e) ∷ [])
  pub step2 : Gives elsewhere turned (entry Added (export_b 0) ∷ [])
      (entry Added (unknown_from 0x6d) ∷ entry Removed (unknown_from 0x6e) ∷ [])
  pub step3 : Gives turned approved (entry Removed (export_b 0) ∷ []) []
  -- Two files with other bytes, of which each can replace the other: both lists are empty.
  pub empty : Gives wider turned [] []
  pub each : Replaces wider turned × Replaces turned wider
  -- The second text allows what the first allows: a file that needs the clock passes under both.
  pub clock : Clear (sole 2) clock_alone
  pub clock_too : Clear (sole 2) all_but_network
  -- And more: one that needs files passes under the second alone.
  pub files : Clear (sole 0) all_but_network
  pub files_not : Clear (sole 0) clock_alone → ⊥
