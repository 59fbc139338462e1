-- What a series of builds can hide, two builds that stand in for each other, and policies by what they allow: of builds, and of files and
-- calls. Theorems, Files and Policies prove the records. Assumes nothing.
use Rattle.std.specs.Prelude.{◌≡◌, ◌↔◌, true, false, List, [], ◌∷◌, ℕ, ◌<◌}
use Rattle.refusal.specs.Said.{accepted}
use Rattle.conform.specs.Claims.{Bytes}
use Rattle.policy.specs.declared.Policy.{Policy}
use Rattle.policy.specs.Reader.{read_policy}
use Rattle.verdicts.specs.Evaluate.{effective_of}
use Rattle.differences.specs.declared.Change.{Change}
use Rattle.differences.specs.View.{ExportKey, Need}
use Rattle.differences.specs.Differences.{export_diff, need_diff}
use Rattle.differences.specs.Compared.{Verdict}
use Rattle.listed.specs.Comparisons.{Comparison, comparison}
use Rattle.standin.specs.Passing.{Passes}
use Rattle.covering.specs.Replacing.{Reports}
use Rattle.standin.specs.Builds.{Build, view, builds_compared, StandsIn, last, Meets, Clear, Replaces, last_file}
use Rattle.series.specs.Steps.{SomeStep, Answered, ExportReported, NeedReported, FileSeries}
use Rattle.series.specs.Policies.{NoStricter, sole}

-- Of any series of builds, whether or not one stands in for the one before it.
pub record OfSeries : Type 0 where
  -- An export that the comparison of the first with the last reports removed, or added, the comparison of some step reports so.
  pub exports : (b : Build) (cs : List Build) (h : Change) (e : ExportKey) → Reports h e (export_diff (view b) (view (last b cs)))
      → SomeStep b cs (λ x y. Reports h e (export_diff (view x) (view y)))
  -- And so a pair of domain and source.
  pub needs : (b : Build) (cs : List Build) (h : Change) (n : Need) → Reports h n (need_diff (view b) (view (last b cs)))
      → SomeStep b cs (λ x y. Reports h n (need_diff (view x) (view y)))

-- The same of files and of what the one call says of each two.
pub record OfFileSeries : Type 0 where
  -- What it reports of two files is what the comparison of any two builds of them reports.
  pub same_exports : (b c : Build) (h : Change) (e : ExportKey)
      → Reports h e (export_diff (view b) (view c)) ↔ ExportReported h e b.file c.file
  pub same_needs : (b c : Build) (h : Change) (n : Need) → Reports h n (need_diff (view b) (view c)) ↔ NeedReported h n b.file c.file
  -- Where each step's comparison is accepted, so is that of the first with the last.
  pub ends : (f g : List ℕ) (gs : List (List ℕ)) → Bytes f → FileSeries f (g ∷ gs) → Answered f (last_file g gs)
  -- And what it reports, the comparison of some step reports.
  pub exports : (f : List ℕ) (gs : List (List ℕ)) (h : Change) (e : ExportKey) → Bytes f → FileSeries f gs
      → ExportReported h e f (last_file f gs) → SomeStep f gs (ExportReported h e)
  pub needs : (f : List ℕ) (gs : List (List ℕ)) (h : Change) (n : Need) → Bytes f → FileSeries f gs
      → NeedReported h n f (last_file f gs) → SomeStep f gs (NeedReported h n)

-- Two that stand in for each other.
pub record EachOther : Type 0 where
  -- Two builds do exactly where both lists are empty,
  pub lists : (b c : Build) → (StandsIn b c × StandsIn c b) ↔ ((export_diff (view b) (view c) ≡ []) × (need_diff (view b) (view c) ≡ []))
  -- which an accepted comparison, with any room, says by its two counts.
  pub counts : (b c : Build) (room8 room9 : ℕ) (v : Verdict) → builds_compared b c room8 room9 ≡ accepted v
      → (StandsIn b c × StandsIn c b) ↔ ((v.exports ≡ 0) × (v.capabilities ≡ 0))
  -- Each of two files can replace the other exactly where both lists of the one call are empty.
  pub files : (f g : List ℕ) (all : Comparison) → Bytes f → Bytes g → comparison f g ≡ accepted all
      → (Replaces f g × Replaces g f) ↔ ((all.lists.exports ≡ []) × (all.lists.needs ≡ []))

-- Whoever passes p passes q exactly where q allows every domain that p allows.
pub record Allowing : Type 0 where
  -- Every list of required domains that evaluation takes, be it of a module or of a manifest.
  pub sets : (p q : Policy) → NoStricter p q ↔ ((ds : List ℕ) (n : ℕ) → Passes p ds n → Passes q ds n)
  -- Every build.
  pub builds : (p q : Policy) → NoStricter p q ↔ ((b : Build) → Meets p b → Meets q b)
  -- Every file, checked under texts that are read as the two.
  pub texts : (p q : Policy) (t u : List ℕ) → read_policy t ≡ accepted p → read_policy u ≡ accepted q
      → NoStricter p q ↔ ((f : List ℕ) → Bytes f → Clear f t → Clear f u)
  -- Where q denies a domain that p allows, a file that needs this domain alone passes under the one and not under the other.
  pub apart : (p q : Policy) (t u : List ℕ) → read_policy t ≡ accepted p → read_policy u ≡ accepted q
      → (d : ℕ) → d < 7 → (effective_of p d).allow ≡ true → (effective_of q d).allow ≡ false
      → Bytes (sole d) × Clear (sole d) t × (Clear (sole d) u → ⊥)
