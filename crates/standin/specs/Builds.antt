-- Accepted modules as `read_module` leaves them, and what the calls above it answer of them. Assumes nothing.
use Rattle.std.specs.Prelude.{◌≡◌, true, List, [], ◌∷◌, map, ℕ, length}
use Rattle.refusal.specs.Said.{Said, accepted, follow}
use Rattle.table.specs.Table.{laid}
use Rattle.table.specs.Shape.{limit}
use Rattle.wasm.specs.declared.Module.{Module}
use Rattle.wasm.specs.Module.{Sizes, module_at, Lent, ModuleIs}
use Rattle.conform.specs.Claims.{Bytes}
use Rattle.policy.specs.declared.Policy.{Policy}
use Rattle.policy.specs.Reader.{read_policy}
use Rattle.verdicts.specs.Evaluate.{Outcome}
use Rattle.requirements.specs.Requirements.{row_domain, module_rows}
use Rattle.checking.specs.Checking.{checked_of}
use Rattle.differences.specs.View.{View, Need, ExportKey}
use Rattle.differences.specs.Compared.{Given, given, viewed, Lists, lists, compared, Verdict, verdict_on}
use Rattle.reasons.specs.Reasons.{reasons_of}
use Rattle.listed.specs.Comparisons.{Comparison, tabled, comparison}
use Rattle.standin.specs.Passing.{Passes}
use Rattle.covering.specs.Replacing.{keys}

-- ---- reading
-- a file that `read_module` accepted with tables of some sizes: its answer, and the tables as its promise says that it leaves them
pub record Build : Type 0 where
  pub file : List ℕ
  pub bytes : Bytes file
  pub sizes : Sizes
  pub tables : Lent
  pub answer : Module
  pub promise : ModuleIs (length file) sizes (module_at file sizes) tables (accepted answer)

-- what is handed on: the file, tables 2 and 3, and their counts
abbrev pub handed : Build → Given
handed b = given b.file b.tables.imports b.answer.imports b.tables.exports b.answer.exports

abbrev pub view : Build → View
view b = viewed (handed b)

-- the exports, by name and kind; the pairs of domain and source that its function imports need; the domains of these pairs
abbrev pub exports : Build → List ExportKey
exports b = keys (view b).exports

abbrev pub pairs : Build → List Need
pairs b = keys (view b).needs

abbrev pub domains : Build → List ℕ
domains b = map (λ n. n.domain) (pairs b)

-- ---- comparing
-- what `compare_modules` promises to answer of a baseline b and a candidate c, with room for so many rows in tables 8 and 9
abbrev pub builds_compared : Build → Build → ℕ → ℕ → Said Verdict
builds_compared b c room8 room9 = follow (compared (handed b) (handed c) room8 room9) (λ l. accepted (verdict_on l))

-- with tables at the limits it is accepted, and says compatible
pub record StandsIn (b c : Build) : Type 0 where
  pub verdict : Verdict
  pub answers : builds_compared b c (limit 8) (limit 9) ≡ accepted verdict
  pub says : verdict.compatible ≡ true

-- a series of builds, its first and the others in order, each of which can stand in for the one before it; its last
abbrev pub Chain : Build → List Build → Type 0
Chain b [] = Unit {0}
Chain b (c ∷ cs) = StandsIn b c × Chain c cs

abbrev pub last : Build → List Build → Build
last b [] = b
last b (c ∷ cs) = last c cs

-- ---- explaining
-- lists of two modules, and the reasons that their rows give
abbrev pub with_reasons : Given → Given → Lists → Comparison
with_reasons b c l = record { lists = l; reasons = reasons_of b c (tabled l) }

-- the two modules' own lists
abbrev pub builds_told : Given → Given → Comparison
builds_told b c = with_reasons b c (lists (viewed b) (viewed c))

-- ---- policies
-- a policy that `read_policy` accepted some text as
pub record Read (p : Policy) : Type 0 where
  pub text : List ℕ
  pub reads : read_policy text ≡ accepted p

-- what `requirements_from_module` and then `evaluate_domains` promise, with columns of 1,024 cells: both accept, and no domain violates
pub record Meets (p : Policy) (b : Build) : Type 0 where
  pub rows : List ℕ
  pub required : module_rows b.file b.tables.imports b.answer.imports (limit 7) ≡ accepted rows
  pub passes : Passes p (laid (limit 7) (map (row_domain b.file b.tables.imports) rows)) (length rows)

-- the whole check of a file against a policy's text, in one call, is accepted, and no domain violates
pub record Clear (file text : List ℕ) : Type 0 where
  pub outcome : Outcome
  pub answers : checked_of file text ≡ accepted outcome
  pub none : outcome.count ≡ 0

-- ---- files
-- what the one call says of two files, `comparison`, which `viscrombal_compare` promises: it is accepted, and says compatible
pub record Replaces (f g : List ℕ) : Type 0 where
  pub all : Comparison
  pub answers : comparison f g ≡ accepted all
  pub says : (verdict_on all.lists).compatible ≡ true

-- a series of files, its first and the others in order, each of which replaces the one before it; its last
abbrev pub FileChain : List ℕ → List (List ℕ) → Type 0
FileChain f [] = Unit {0}
FileChain f (g ∷ gs) = Bytes g × Replaces f g × FileChain g gs

abbrev pub last_file : List ℕ → List (List ℕ) → List ℕ
last_file f [] = f
last_file f (g ∷ gs) = last_file g gs

-- builds of these two files, of which the second stands in for the first
pub record Stood (f g : List ℕ) : Type 0 where
  pub baseline : Build
  pub candidate : Build
  pub baseline-is : baseline.file ≡ f
  pub candidate-is : candidate.file ≡ g
  pub stands : StandsIn baseline candidate
