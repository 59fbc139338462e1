-- A series of builds, or of files, and its steps; and what the one call reports of two files. Assumes nothing.
use Rattle.std.specs.Prelude.{◌≡◌, List, [], ◌∷◌, ℕ}
use Rattle.refusal.specs.Said.{accepted}
use Rattle.conform.specs.Claims.{Bytes}
use Rattle.differences.specs.declared.Change.{Change}
use Rattle.differences.specs.View.{ExportKey, Need}
use Rattle.listed.specs.Comparisons.{Comparison, comparison}
use Rattle.covering.specs.Replacing.{Reports}

-- ---- any series: its first, and the others in order
-- y comes right after x in the series of b and then cs
pub data Step {A : Type 0} : A → List A → A → A → Type 0 where
  here : {b c : A} {cs : List A} → Step b (c ∷ cs) b c
  there : {b c x y : A} {cs : List A} → Step c cs x y → Step b (c ∷ cs) x y

-- a step of the series, from x to y, of which something is true
abbrev pub SomeStep : {A : Type 0} → A → List A → (A → A → Type 0) → Type 0
SomeStep {A} b cs P = (x : A) × (y : A) × Step b cs x y × P x y

-- ---- files
-- the one call, `comparison`, which `viscrombal_compare` promises, is accepted for two files
pub record Answered (f g : List ℕ) : Type 0 where
  pub all : Comparison
  pub answers : comparison f g ≡ accepted all

-- and its list of exports reports this change of an export
pub record ExportReported (h : Change) (e : ExportKey) (f g : List ℕ) : Type 0 where
  pub all : Comparison
  pub answers : comparison f g ≡ accepted all
  pub reports : Reports h e all.lists.exports

-- or its list of pairs this change of a pair
pub record NeedReported (h : Change) (n : Need) (f g : List ℕ) : Type 0 where
  pub all : Comparison
  pub answers : comparison f g ≡ accepted all
  pub reports : Reports h n all.lists.needs

-- a series of files: the comparison of each with the one before it is accepted, whatever it says
abbrev pub FileSeries : List ℕ → List (List ℕ) → Type 0
FileSeries f [] = Unit {0}
FileSeries f (g ∷ gs) = Bytes g × Answered f g × FileSeries g gs
