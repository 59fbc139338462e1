-- What is read strictly is read plainly: so all that is known of builds is known of these. Assumes nothing.
use mathlib.Core.Path.{◌≡◌, refl, sym, ◌∙◌, subst}
use mathlib.Core.List.{List, [], ◌∷◌}
use Prim.Native.Nat.{ℕ}
use lib.ListN.{length}
use Rattle.refusal.specs.Said.{Said, accepted}
use Rattle.refusal.proofs.Following.{followed}
use Rattle.wasm.specs.declared.Module.{Module}
use Rattle.wasm.specs.Module.{Sizes, Parsed, module_at, Lent, ModuleIs}
use Rattle.conform.specs.Claims.{Bytes}
use Rattle.standin.specs.Builds.{Build, StandsIn, last, Meets, Clear}
use Rattle.standin.proofs.Theorems.{replacement}
use Rattle.strict.specs.Rules.{strict_at}
use Rattle.strict.proofs.Strictly.{strict-plain}
use Rattle.standin.specs.Strict.{StrictBuild, last_strict, plainly, StrictPromised, StrictReplacement}

promised : (file : List ℕ) (sizes : Sizes) (tables : Lent) (answer : Module) → Bytes file
    → ModuleIs (length file) sizes (strict_at file sizes) tables (accepted answer) → StrictPromised file sizes tables answer
promised file sizes tables answer bytes p =
    let o = followed (strict_at file sizes) _ (sym p.answer-is) in
    let e : strict_at file sizes ≡ module_at file sizes = o.first ∙ sym (strict-plain file sizes o.what o.first) in
    let q : ModuleIs (length file) sizes (module_at file sizes) tables (accepted answer) =
    subst (λ (x : Said Parsed). ModuleIs (length file) sizes x tables (accepted answer)) e p in
    record {
      strict = record {
        build = record { file = file; bytes = bytes; sizes = sizes; tables = tables; answer = answer; promise = q };
        rows = o.what;
        read = o.first;
      };
      file-is = refl;
      tables-are = refl;
      answer-is = refl;
    }

last-is : (b : StrictBuild) (cs : List StrictBuild) → last b.build (plainly cs) ≡ (last_strict b cs).build
last-is b [] = refl
last-is b (c ∷ cs) = last-is c cs

pub strict-replacement : StrictReplacement
strict-replacement =
    record {
      made = promised;
      series = λ b cs h. subst (StandsIn b.build) (last-is b cs) (replacement.series b.build (plainly cs) h);
      policies = λ b cs h p r m. subst (Meets p) (last-is b cs) (replacement.policies b.build (plainly cs) h p r m);
      checks = λ b cs h text q.
          subst (λ (c : Build). Clear c.file text) (last-is b cs) (replacement.checks b.build (plainly cs) h text q);
    }
