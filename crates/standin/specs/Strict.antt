-- When a build can replace another, of builds that `read_strict` accepted: along any chain of replacements the last one is read strictly
-- too, stands in for the first and meets every policy that the first meets. proofs/Strict proves the record. Assumes nothing.
use Rattle.std.specs.Prelude.{◌≡◌, List, [], ◌∷◌, map, ℕ, length}
use Rattle.refusal.specs.Said.{accepted}
use Rattle.wasm.specs.declared.Module.{Module}
use Rattle.wasm.specs.Module.{Sizes, Parsed, Lent, ModuleIs}
use Rattle.conform.specs.Claims.{Bytes}
use Rattle.policy.specs.declared.Policy.{Policy}
use Rattle.standin.specs.Builds.{Build, StandsIn, Chain, Read, Meets, Clear}
use Rattle.strict.specs.Rules.{strict_at}

-- a build whose file is read strictly
pub record StrictBuild : Type 0 where
  pub build : Build
  pub rows : Parsed
  pub read : strict_at build.file build.sizes ≡ accepted rows

-- the builds of a list, as they are read plainly
abbrev pub plainly : List StrictBuild → List Build
plainly cs = map (λ (c : StrictBuild). c.build) cs

-- a series of such builds, its first and the others in order, each of which can stand in for the one before it; its last
abbrev pub StrictChain : StrictBuild → List StrictBuild → Type 0
StrictChain b cs = Chain b.build (plainly cs)

abbrev pub last_strict : StrictBuild → List StrictBuild → StrictBuild
last_strict b [] = b
last_strict b (c ∷ cs) = last_strict c cs

-- such a build, of this file, these tables and this answer
pub record StrictPromised (file : List ℕ) (sizes : Sizes) (tables : Lent) (answer : Module) : Type 0 where
  pub strict : StrictBuild
  pub file-is : strict.build.file ≡ file
  pub tables-are : strict.build.tables ≡ tables
  pub answer-is : strict.build.answer ≡ answer

pub record StrictReplacement : Type 0 where
  -- What `read_strict` promises of a file that it accepts makes such a build.
  pub made : (file : List ℕ) (sizes : Sizes) (tables : Lent) (answer : Module) → Bytes file
      → ModuleIs (length file) sizes (strict_at file sizes) tables (accepted answer) → StrictPromised file sizes tables answer
  -- Along any chain of replacements, of any length, the last build stands in for the first.
  pub series : (b : StrictBuild) (cs : List StrictBuild) → StrictChain b cs → StandsIn b.build (last_strict b cs).build
  -- And meets every policy that the first meets.
  pub policies : (b : StrictBuild) (cs : List StrictBuild) → StrictChain b cs → (p : Policy) → Read p → Meets p b.build
      → Meets p (last_strict b cs).build
  -- In one call: where the whole check of the first build's file passes under a policy's text, so does that of the last build's.
  pub checks : (b : StrictBuild) (cs : List StrictBuild) → StrictChain b cs → (text : List ℕ) → Clear b.build.file text
      → Clear (last_strict b cs).build.file text
