-- 3 is no refusal's number: of what the library answers, by the type of each answer; of the C interface, by what its structs tell.
-- Assumes nothing.
use Rattle.std.specs.Prelude.{Result, Ok, Err, Option, Some, None}
use Prim.Native.Nat.{ℕ}
use native.Mathlib.Omega.{arith}
use mathlib.Core.Path.{◌≡◌, refl, sym, ◌∙◌, ap, subst}
use mathlib.Core.Bool.{false, true≢false}
use mathlib.Core.List.{List}
use lib.Dec.{eqb}
use lib.IntN.{ℤ}
use lib.ListN.{length}
use Rattle.refusal.specs.Said.{Said, accepted, refused, Got, got, refused_by, said_by, Place}
use Rattle.refusal.specs.declared.Part.{Part}
use Rattle.refusal.specs.declared.Refusal.{Refusal}
use Rattle.refusal.proofs.Following.{never}
use Rattle.refusal.proofs.Known.{never-three}
use Rattle.leb.specs.Answers.{finding_of, said_read, said_skip}
use Rattle.leb.specs.declared.Cursor.{Cursor}
use Rattle.leb.specs.declared.Unread.{Unread}
use Rattle.wasm.specs.Module.{Parsed, module_at}
use Rattle.conform.specs.Sound.{limits}
use Rattle.policy.specs.declared.Policy.{Policy}
use Rattle.policy_text.specs.Token as tokens
use Rattle.policy_text.specs.declared.token.Token.{Token}
use Rattle.compat.specs.Answer.{said_compared}
use Rattle.compat.specs.declared.Lists.{Lists}
use Rattle.verdicts.specs.Evaluate.{Outcome, said_evaluation}
use Rattle.verdicts.specs.declared.Evaluation.{Evaluation}
use Rattle.output.specs.Bytes.{written_count}
use Rattle.told.specs.Reading.{unsigned_told, range_told}
use Rattle.told.specs.Policies.{number_in, token_told, written_told}
use Rattle.told.specs.Check.{evaluation_told}
use Rattle.told.specs.Answers.{answer_told}
use Rattle.told.specs.declared.cursor.Unsigned.{Unsigned}
use Rattle.told.specs.declared.cursor.Range.{Range}
use Rattle.told.specs.declared.policies.TokenTold.{TokenTold}
use Rattle.told.specs.declared.policies.WrittenTold.{WrittenTold}
use Rattle.told.specs.declared.check.EvaluationTold.{EvaluationTold}
use Rattle.told.specs.declared.answers.AnswerTold.{AnswerTold}
use Rattle.listed.specs.Modules.{module_bytes, module_told}
use Rattle.listed.specs.Manifests.{ManifestListing, manifest_bytes, manifest_told, manifest_listed}
use Rattle.listed.specs.Comparisons.{Comparison, comparison_bytes, comparison_told, comparison}
use Rattle.listed.specs.Tokens.{tokens_bytes, tokens_told, tokens_read}
use Rattle.listed.specs.declared.modules.ModuleTold.{ModuleTold}
use Rattle.listed.specs.declared.manifests.ManifestTold.{ManifestTold}
use Rattle.listed.specs.declared.comparison.ComparisonTold.{ComparisonTold}
use Rattle.listed.specs.declared.tokens.TokensTold.{TokensTold}
use Rattle.capi.specs.Reading.{signed_told}
use Rattle.capi.specs.Policies.{policy_told}
use Rattle.capi.specs.declared.cursor.Signed.{Signed}
use Rattle.capi.specs.declared.policies.PolicyTold.{PolicyTold}
use Rattle.promises.specs.NoThree.{NotThree, NoThreeSaid, NoThreeTold}
use Rattle.promises.proofs.Refusals.{Spares, uleb, sleb, narrow, named, read, tested-strictly, policy, next, all, rewrite, checking}
use Rattle.promises.proofs.RefusalsListed.{listing, comparing, delivered}

-- ---- by type
by-type : {X : Type 0} (w : Refusal) → NotThree {X = X} (refused_by w)
by-type {X} w p e = never-three w (number e) where
  number : {m n : ℕ} {q : Place} → ◌≡◌ {A = Said X} (refused m q) (refused n p) → m ≡ n
  number f = cc

said : {X : Type 0} (r : Result X Refusal) → NotThree (said_by r)
said (Ok v) p e = never (sym e)
said (Err w) p e = by-type w p e

found : {X : Type 0} (r : Result (X × Cursor) Unread) → NotThree (finding_of (said_read r))
found (Ok (v, next)) p e = never (sym e)
found (Err w) p e = by-type w.why p e

skip : (r : Result Cursor Unread) → NotThree (finding_of (said_skip r))
skip (Ok next) p e = never (sym e)
skip (Err w) p e = by-type w.why p e

token : (r : Result (Option Token) Refusal) → NotThree (tokens.said_token r)
token (Ok (Some t)) p e = never (sym e)
token (Ok None) p e = never (sym e)
token (Err w) p e = by-type w p e

compared : (r : Result Lists Refusal) → NotThree (said_compared r)
compared (Ok l) p e = never (sym e)
compared (Err w) p e = by-type w p e

evaluated : (r : Result Evaluation Refusal) → NotThree (said_evaluation r)
evaluated (Ok v) p e = never (sym e)
evaluated (Err w) p e = by-type w p e

pub no-three-said : NoThreeSaid
no-three-said = record {
  no-three-answer = said;
  no-three-count = said;
  no-three-written = said;
  no-three-byte = found;
  no-three-u32 = found;
  no-three-u64 = found;
  no-three-i64 = found;
  no-three-part = found;
  no-three-skip = skip;
  no-three-module = said;
  no-three-manifest = said;
  no-three-token = token;
  no-three-compared = compared;
  no-three-policy = said;
  no-three-verdicts = evaluated;
}

-- ---- over the C interface
number-told : {X : Type 0} (x : Said X) → Spares x → number_in x ≡ 3 → ⊥
number-told (accepted v) h e = omega (arith, e)
number-told (refused n p) h e = true≢false (subst (λ (k : ℕ). eqb k 3 ≡ false) e (h.number n p refl))

in-unsigned : (x : Said (Got ℕ)) → (unsigned_told x).number ≡ number_in x
in-unsigned (accepted (got v d)) = refl
in-unsigned (refused n p) = refl

in-signed : (x : Said (Got ℤ)) → (signed_told x).number ≡ number_in x
in-signed (accepted (got v d)) = refl
in-signed (refused n p) = refl

in-range : (x : Said (Got Part)) → (range_told x).number ≡ number_in x
in-range (accepted (got v d)) = refl
in-range (refused n p) = refl

in_policy : (x : Said Policy) → (policy_told x).number ≡ number_in x
in_policy (accepted v) = refl
in_policy (refused n p) = refl

in-token : (x : Said tokens.Found) → (token_told x).number ≡ number_in x
in-token (accepted tokens.nothing) = refl
in-token (accepted (tokens.token a n d)) = refl
in-token (refused n p) = refl

in-written : (x : Said (List ℕ)) → (written_told (written_count x)).number ≡ number_in x
in-written (accepted w) = refl
in-written (refused n p) = refl

in-evaluation : (x : Said Outcome) → (evaluation_told x).number ≡ number_in x
in-evaluation (accepted o) = refl
in-evaluation (refused n p) = refl

in-module : (k : ℕ) (x : Said Parsed) → (module_told k x).number ≡ number_in x
in-module k (accepted m) = refl
in-module k (refused n p) = refl

in-manifest : (x : Said ManifestListing) → (manifest_told x).number ≡ number_in x
in-manifest (accepted l) = refl
in-manifest (refused n p) = refl

in-comparison : (x : Said Comparison) → (comparison_told x).number ≡ number_in x
in-comparison (accepted l) = refl
in-comparison (refused n p) = refl

in-tokens : (x : Said (List Part)) → (tokens_told x).number ≡ number_in x
in-tokens (accepted l) = refl
in-tokens (refused n p) = refl

-- an answer that is told in a struct r, whose number is that of what is told
told-by : {X R : Type 0} (number : R → ℕ) (tell : Said X → R) → ((x : Said X) → number (tell x) ≡ number_in x) → (x : Said X) → Spares x
    → (r : R) → r ≡ tell x → number r ≡ 3 → ⊥
told-by number tell same x h r q e = number-told x h (sym (same x) ∙ ap number (sym q) ∙ e)

pub no-three-told : NoThreeTold
no-three-told = record {
  no-three-uleb128-call = λ κs a x s p. told-by (λ (r : Unsigned). r.number) unsigned_told in-unsigned _ (uleb a.0.now a.1.0) x p;
  no-three-uleb128-u32-call = λ κs a x s p.
      told-by (λ (r : Unsigned). r.number) unsigned_told in-unsigned _ (narrow a.0.now a.1.0) x p;
  no-three-sleb128-call = λ κs a x s p. told-by (λ (r : Signed). r.number) signed_told in-signed _ (sleb a.0.now a.1.0) x p;
  no-three-name-call = λ κs a x s p. told-by (λ (r : Range). r.number) range_told in-range _ (named a.0.now a.1.0) x p;
  no-three-policy-call = λ κs a x s p. told-by (λ (r : PolicyTold). r.number) policy_told in_policy _ (policy a.0.now) x p;
  no-three-token-call = λ κs a x s p.
      told-by (λ (r : TokenTold). r.number) token_told in-token _ (next a.0.now a.1.0 a.1.1.0) x p;
  no-three-rewrite-call = λ κs a x s p.
      told-by (λ (r : WrittenTold). r.number) (λ o. written_told (written_count o)) in-written _
      (rewrite a.0.now (length a.1.0.now)) x p.answer-is;
  no-three-check-call = λ κs a x s p.
      told-by (λ (r : EvaluationTold). r.number) evaluation_told in-evaluation _ (checking a.0.now a.1.0.now) x p;
  no-three-strict-call = λ κs a x s p.
      told-by (λ (r : AnswerTold). r.number) answer_told (λ y. refl) _ (tested-strictly a.0.now) x p;
  no-three-module-call = λ κs a x s p.
      told-by (λ (r : ModuleTold). r.number) (module_told (length a.0.now)) (in-module (length a.0.now)) _
      (delivered module_bytes (length a.1.0.now) (module_at a.0.now limits) (read a.0.now limits)) x p.answer-is;
  no-three-manifest-call = λ κs a x s p.
      told-by (λ (r : ManifestTold). r.number) manifest_told in-manifest _
      (delivered manifest_bytes (length a.1.0.now) (manifest_listed a.0.now) (listing a.0.now)) x p.answer-is;
  no-three-compare-call = λ κs a x s p.
      told-by (λ (r : ComparisonTold). r.number) comparison_told in-comparison _
      (delivered comparison_bytes (length a.1.1.0.now) (comparison a.0.now a.1.0.now)
      (comparing a.0.now a.1.0.now)) x p.answer-is;
  no-three-tokens-call = λ κs a x s p.
      told-by (λ (r : TokensTold). r.number) tokens_told in-tokens _
      (delivered tokens_bytes (length a.1.1.0.now) (tokens_read a.0.now a.1.0) (all a.0.now a.1.0)) x p.answer-is;
}
