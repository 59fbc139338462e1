-- No two answers satisfy the promise of `evaluate`, and what satisfies it is what `evaluate_domains` answers on the records' domains.
-- The promise of `evaluate` is taken here as a clause that holds of a state, and not as a `Post`. Assumes nothing.
use Rattle.std.specs.Prelude.{ℕ, ◌≡◌, List, Result}
use seplogic.Ra.Ura.{Ura}
use base.Logic.{SProp, ent, id⊢, fst∗, snd∗, sep}
use contract.Fact.{fact_i, fact_use}
use contract.Lifetimes.{Lfts}
use contract.Monad.{fact, Fun}
use prog.Memory.{Memory}
use prog.Routine.{Routine}
use types.Logic.{Logic}
use borrow.Fn.Kinds.{Dens, res_t, ended_of}
use borrow.Fn.World.{ArgsD, ResD}
use denote.Triple.Clauses.{AtExit}
use Rattle.verdicts.specs.Evaluate.{evaluated, said_evaluation}
use Rattle.refusal.specs.declared.Refusal.{Refusal}
use Rattle.policy.specs.declared.Policy.{Policy}
use Rattle.verdicts.specs.declared.Evaluation.{Evaluation}
use Rattle.verdicts.proofs.Known.{evaluation-known}
use Rattle.verdicts.proofs.evaluate_domains.Kinds as evaluate-domains-kinds
use Rattle.verdicts.proofs.evaluate_domains.Reads as evaluate-domains
use Rattle.verdicts.specs.Records.{numbers}
use Rattle.verdicts.specs.contracts.records.evaluate as evaluate

same-call : {ns ms : List ℕ} {n m : ℕ} {p q : Policy} (r : Result Evaluation Refusal) → ns ≡ ms → n ≡ m → p ≡ q
    → said_evaluation r ≡ evaluated ns n p → said_evaluation r ≡ evaluated ms m q
same-call r d e f h = rw (← d, ← e, ← f) h

module _ {M : Type 1} {𝓤 : Ura M} (𝓛 : Logic 𝓤) (mem : Memory → SProp 𝓤) (run : Routine → Fun 𝓤) (κs : Lfts 1)
    (a : ArgsD evaluate.signature κs) where
  -- what the promise says of an answer
  abbrev Says : ResD evaluate.signature κs → AtExit evaluate.ended κs → SProp 𝓤
  Says x s = (evaluate.clauses 𝓛 mem run κs a).ensures tt x s

  pub evaluate-decides : (x y : ResD evaluate.signature κs) (s t : AtExit evaluate.ended κs)
      → ent 𝓤 (sep 𝓤 (Says x s) (Says y t)) (fact 𝓤 (x ≡ y))
  evaluate-decides x y s t =
      fact_use 𝓤 (said_evaluation x ≡ evaluated (numbers a.0.now) a.1.0 a.1.1.0) (fst∗ 𝓤 (Says x s) (Says y t)) (λ p.
      fact_use 𝓤 (said_evaluation y ≡ evaluated (numbers a.0.now) a.1.0 a.1.1.0) (snd∗ 𝓤 (Says x s) (Says y t)) (λ q.
      fact_i 𝓤 (x ≡ y) (sep 𝓤 (Says x s) (Says y t)) (evaluation-known x y p q)))

  -- the records' domain numbers, count and policy handed to `evaluate_domains` instead
  pub evaluate-as-domains : (κ : Lfts 1) (b : Dens κ evaluate-domains-kinds.ps) (y : (res_t evaluate-domains-kinds.r κ).Denot)
      (t : AtExit (ended_of 1 evaluate-domains-kinds.ps evaluate-domains-kinds.r) κ) → b.0.now ≡ numbers a.0.now
      → b.1.0 ≡ a.1.0 → b.1.1.0 ≡ a.1.1.0 → evaluate-domains.Post κ b y t → (x : ResD evaluate.signature κs)
      (s : AtExit evaluate.ended κs) → ent 𝓤 (Says x s) (fact 𝓤 (x ≡ y))
  evaluate-as-domains κ b y t d e f q x s =
      fact_use 𝓤 (said_evaluation x ≡ evaluated (numbers a.0.now) a.1.0 a.1.1.0) (id⊢ 𝓤 (Says x s)) (λ p.
      fact_i 𝓤 (x ≡ y) (Says x s) (evaluation-known x y p (same-call y d e f q)))
