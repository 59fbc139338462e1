-- docs/RULES.md, "Numbered answers": 3 is no refusal's number any more. What is claimed of the answers of every call; the proofs are in
-- proofs/NoThree. Assumes nothing.
use Rattle.std.specs.Prelude.{ℕ, ◌≡◌, List, Result, Option, ℤ}
use contract.Lifetimes.{Lfts}
use borrow.Fn.Kinds.{ParamKind, ResultKind, Out, Dens, res_t, ended_of}
use denote.Triple.Clauses.{AtExit}
use Rattle.refusal.specs.Said.{Said, refused, said_by, Place}
use Rattle.refusal.specs.declared.Part.{Part}
use Rattle.refusal.specs.declared.Refusal.{Refusal}
use Rattle.leb.specs.Answers.{finding_of, said_read, said_skip}
use Rattle.leb.specs.declared.Cursor.{Cursor}
use Rattle.leb.specs.declared.Unread.{Unread}
use Rattle.wasm.specs.Module.{said_module}
use Rattle.wasm.specs.declared.Module.{Module}
use Rattle.wit.specs.Manifest.{said_manifest}
use Rattle.wit.specs.declared.Manifest.{Manifest}
use Rattle.policy.specs.declared.Policy.{Policy}
use Rattle.policy_text.specs.Token.{said_token}
use Rattle.policy_text.specs.declared.token.Token.{Token}
use Rattle.compat.specs.Answer.{said_compared}
use Rattle.compat.specs.declared.Lists.{Lists}
use Rattle.verdicts.specs.Evaluate.{said_evaluation}
use Rattle.verdicts.specs.declared.Evaluation.{Evaluation}
use Rattle.capi.proofs.cursor.viscrombal_uleb128.Kinds as uleb128-kinds
use Rattle.capi.proofs.cursor.viscrombal_uleb128.Reads as uleb128
use Rattle.capi.proofs.cursor.viscrombal_uleb128_u32.Kinds as uleb128-u32-kinds
use Rattle.capi.proofs.cursor.viscrombal_uleb128_u32.Reads as uleb128-u32
use Rattle.capi.proofs.cursor.viscrombal_sleb128.Kinds as sleb128-kinds
use Rattle.capi.proofs.cursor.viscrombal_sleb128.Reads as sleb128
use Rattle.capi.proofs.cursor.viscrombal_name.Kinds as name-kinds
use Rattle.capi.proofs.cursor.viscrombal_name.Reads as name
use Rattle.capi.proofs.policies.viscrombal_policy.Kinds as policy-kinds
use Rattle.capi.proofs.policies.viscrombal_policy.Reads as policy
use Rattle.capi.proofs.policies.viscrombal_token.Kinds as token-kinds
use Rattle.capi.proofs.policies.viscrombal_token.Reads as token
use Rattle.capi.proofs.policies.viscrombal_rewrite.Kinds as rewrite-kinds
use Rattle.capi.proofs.policies.viscrombal_rewrite.Reads as rewrite
use Rattle.capi.proofs.check.viscrombal_check.Kinds as check-kinds
use Rattle.capi.proofs.check.viscrombal_check.Reads as check
use Rattle.capi.proofs.strictly.viscrombal_strict.Kinds as strict-kinds
use Rattle.capi.proofs.strictly.viscrombal_strict.Reads as strict
use Rattle.capi.proofs.lists.viscrombal_module.Kinds as module-kinds
use Rattle.capi.proofs.lists.viscrombal_module.Reads as modules
use Rattle.capi.proofs.lists.viscrombal_manifest.Kinds as manifest-kinds
use Rattle.capi.proofs.lists.viscrombal_manifest.Reads as manifest
use Rattle.capi.proofs.lists.viscrombal_compare.Kinds as compare-kinds
use Rattle.capi.proofs.lists.viscrombal_compare.Reads as compare
use Rattle.capi.proofs.lists.viscrombal_tokens.Kinds as tokens-kinds
use Rattle.capi.proofs.lists.viscrombal_tokens.Reads as tokens

abbrev pub NotThree : {X : Type 0} → Said X → Type 0
NotThree x = (p : Place) → x ≡ refused 3 p → ⊥

-- whatever a function of the library answers, by the type of its answer
pub record NoThreeSaid : Type 0 where
  pub no-three-answer : (r : Result (Unit {0}) Refusal) → NotThree (said_by r)
  pub no-three-count : (r : Result ℕ Refusal) → NotThree (said_by r)
  pub no-three-written : (r : Result ℕ Refusal) → NotThree (said_by r)
  pub no-three-byte : (r : Result (ℕ × Cursor) Unread) → NotThree (finding_of (said_read r))
  pub no-three-u32 : (r : Result (ℕ × Cursor) Unread) → NotThree (finding_of (said_read r))
  pub no-three-u64 : (r : Result (ℕ × Cursor) Unread) → NotThree (finding_of (said_read r))
  pub no-three-i64 : (r : Result (ℤ × Cursor) Unread) → NotThree (finding_of (said_read r))
  pub no-three-part : (r : Result (Part × Cursor) Unread) → NotThree (finding_of (said_read r))
  pub no-three-skip : (r : Result Cursor Unread) → NotThree (finding_of (said_skip r))
  pub no-three-module : (r : Result Module Refusal) → NotThree (said_module r)
  pub no-three-manifest : (r : Result Manifest Refusal) → NotThree (said_manifest r)
  pub no-three-token : (r : Result (Option Token) Refusal) → NotThree (said_token r)
  pub no-three-compared : (r : Result Lists Refusal) → NotThree (said_compared r)
  pub no-three-policy : (r : Result Policy Refusal) → NotThree (said_by r)
  pub no-three-verdicts : (r : Result Evaluation Refusal) → NotThree (said_evaluation r)

-- of any answer that satisfies a function's promise, as the check itself reads it (`Post`): the number that is told is not 3
module _ {n : ℕ} (ps : List (ParamKind n)) (r : ResultKind n) where
  abbrev pub NeverTells : Out n ps r → ((κs : Lfts n) → (res_t r κs).Denot → ℕ) → Type 0
  NeverTells Post number =
      (κs : Lfts n) (a : Dens κs ps) (x : (res_t r κs).Denot) (s : AtExit (ended_of n ps r) κs) → Post κs a x s → number κs x ≡ 3 → ⊥

-- every call of the C interface, whose answers are structs of numbers
pub record NoThreeTold : Type 0 where
  pub no-three-uleb128-call : NeverTells uleb128-kinds.ps uleb128-kinds.r uleb128.Post (λ κs x. x.number)
  pub no-three-uleb128-u32-call : NeverTells uleb128-u32-kinds.ps uleb128-u32-kinds.r uleb128-u32.Post (λ κs x. x.number)
  pub no-three-sleb128-call : NeverTells sleb128-kinds.ps sleb128-kinds.r sleb128.Post (λ κs x. x.number)
  pub no-three-name-call : NeverTells name-kinds.ps name-kinds.r name.Post (λ κs x. x.number)
  pub no-three-policy-call : NeverTells policy-kinds.ps policy-kinds.r policy.Post (λ κs x. x.number)
  pub no-three-token-call : NeverTells token-kinds.ps token-kinds.r token.Post (λ κs x. x.number)
  pub no-three-rewrite-call : NeverTells rewrite-kinds.ps rewrite-kinds.r rewrite.Post (λ κs x. x.number)
  pub no-three-check-call : NeverTells check-kinds.ps check-kinds.r check.Post (λ κs x. x.number)
  pub no-three-strict-call : NeverTells strict-kinds.ps strict-kinds.r strict.Post (λ κs x. x.number)
  pub no-three-module-call : NeverTells module-kinds.ps module-kinds.r modules.Post (λ κs x. x.number)
  pub no-three-manifest-call : NeverTells manifest-kinds.ps manifest-kinds.r manifest.Post (λ κs x. x.number)
  pub no-three-compare-call : NeverTells compare-kinds.ps compare-kinds.r compare.Post (λ κs x. x.number)
  pub no-three-tokens-call : NeverTells tokens-kinds.ps tokens-kinds.r tokens.Post (λ κs x. x.number)
