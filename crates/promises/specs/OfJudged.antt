-- No two answers, and no two final contents of lent memory, satisfy the promise of any call of judged. Assumes nothing.
use Rattle.std.specs.Prelude.{◌≡◌}
use Rattle.std.proofs.Common.{sym, ◌∙◌}
use seplogic.Ra.Ura.{Ura}
use base.Logic.{SProp, ent, fst∗, snd∗, sep}
use contract.Fact.{fact_i, fact_use}
use contract.Lifetimes.{Lfts}
use contract.Monad.{fact, Fun}
use prog.Memory.{Memory}
use prog.Routine.{Routine}
use types.Logic.{Logic}
use borrow.Fn.Kinds.{Dens, res_t, ended_of}
use borrow.Fn.World.{ArgsD, ResD}
use denote.Triple.Clauses.{AtExit}
use Rattle.verdicts.specs.Evaluate.{evaluated}
use Rattle.verdicts.specs.Records.{numbers}
use Rattle.told.specs.Check.{evaluation_told}
use Rattle.told.specs.declared.check.EvaluationTold.{EvaluationTold}
use Rattle.judged.specs.Policies.{policy_in}
use Rattle.promises.specs.Decides.{Decides}
use Rattle.judged.proofs.rows.judged_module.Kinds as module-kinds
use Rattle.judged.proofs.rows.judged_module.Reads as module-reads
use Rattle.judged.proofs.rows.judged_strict.Kinds as strict-kinds
use Rattle.judged.proofs.rows.judged_strict.Reads as strict-reads
use Rattle.judged.proofs.rows.judged_functions.Kinds as functions-kinds
use Rattle.judged.proofs.rows.judged_functions.Reads as functions-reads
use Rattle.judged.proofs.rows.judged_memories.Kinds as memories-kinds
use Rattle.judged.proofs.rows.judged_memories.Reads as memories-reads
use Rattle.judged.proofs.rows.judged_namespaces.Kinds as namespaces-kinds
use Rattle.judged.proofs.rows.judged_namespaces.Reads as namespaces-reads
use Rattle.judged.proofs.rows.judged_requirements.Kinds as requirements-kinds
use Rattle.judged.proofs.rows.judged_requirements.Reads as requirements-reads
use Rattle.judged.proofs.manifests.judged_manifest.Kinds as manifest-kinds
use Rattle.judged.proofs.manifests.judged_manifest.Reads as manifest-reads
use Rattle.judged.proofs.manifests.judged_imports.Kinds as all-imports-kinds
use Rattle.judged.proofs.manifests.judged_imports.Reads as all-imports-reads
use Rattle.judged.proofs.manifests.judged_exports.Kinds as all-exports-kinds
use Rattle.judged.proofs.manifests.judged_exports.Reads as all-exports-reads
use Rattle.judged.proofs.manifests.judged_needs.Kinds as needs-kinds
use Rattle.judged.proofs.manifests.judged_needs.Reads as needs-reads
use Rattle.judged.proofs.compares.judged_compare.Kinds as compare-kinds
use Rattle.judged.proofs.compares.judged_compare.Reads as compare-reads
use Rattle.judged.proofs.compares.judged_reasons.Kinds as reasons-kinds
use Rattle.judged.proofs.compares.judged_reasons.Reads as reasons-reads
use Rattle.judged.proofs.compares.judged_export_name.Kinds as export-name-kinds
use Rattle.judged.proofs.compares.judged_export_name.Reads as export-name-reads
use Rattle.judged.proofs.compares.judged_source_name.Kinds as source-name-kinds
use Rattle.judged.proofs.compares.judged_source_name.Reads as source-name-reads
use Rattle.judged.proofs.cursors.judged_u8.Kinds as u8-kinds
use Rattle.judged.proofs.cursors.judged_u8.Reads as u8-reads
use Rattle.judged.proofs.cursors.judged_u32_le.Kinds as u32-le-kinds
use Rattle.judged.proofs.cursors.judged_u32_le.Reads as u32-le-reads
use Rattle.judged.proofs.cursors.judged_take.Kinds as take-kinds
use Rattle.judged.proofs.cursors.judged_take.Reads as take-reads
use Rattle.judged.proofs.cursors.judged_skip.Kinds as skip-kinds
use Rattle.judged.proofs.cursors.judged_skip.Reads as skip-reads
use Rattle.judged.proofs.cursors.judged_left.Kinds as left-kinds
use Rattle.judged.proofs.cursors.judged_left.Reads as left-reads
use Rattle.judged.proofs.words.judged_kind.Kinds as kind-kinds
use Rattle.judged.proofs.words.judged_kind.Reads as kind-reads
use Rattle.judged.proofs.words.judged_kind_byte.Kinds as kind-byte-kinds
use Rattle.judged.proofs.words.judged_kind_byte.Reads as kind-byte-reads
use Rattle.judged.proofs.words.judged_section.Kinds as section-kinds
use Rattle.judged.proofs.words.judged_section.Reads as section-reads
use Rattle.judged.proofs.words.judged_change.Kinds as change-kinds
use Rattle.judged.proofs.words.judged_change.Reads as change-reads
use Rattle.judged.proofs.words.judged_slug.Kinds as slug-kinds
use Rattle.judged.proofs.words.judged_slug.Reads as slug-reads
use Rattle.judged.proofs.words.judged_domain.Kinds as domain-kinds
use Rattle.judged.proofs.words.judged_domain.Reads as domain-reads
use Rattle.judged.proofs.policies.judged_effective.Kinds as effective-kinds
use Rattle.judged.proofs.policies.judged_effective.Reads as effective-reads
use Rattle.judged.proofs.policies.judged_token.Kinds as token-kinds
use Rattle.judged.proofs.policies.judged_token.Reads as token-reads
use Rattle.judged.proofs.policies.judged_write.Kinds as write-kinds
use Rattle.judged.proofs.policies.judged_write.Reads as write-reads
use Rattle.judged.proofs.policies.judged_evaluate.Kinds as evaluate-kinds
use Rattle.judged.proofs.policies.judged_evaluate.Reads as evaluate-reads
use Rattle.judged.specs.contracts.policies.judged_evaluate_records as records
use Rattle.judged.proofs.policies.judged_import.Kinds as import-kinds
use Rattle.judged.proofs.policies.judged_import.Reads as import-reads
use Rattle.judged.proofs.policies.judged_path.Kinds as path-kinds
use Rattle.judged.proofs.policies.judged_path.Reads as path-reads

pub functions-decides : Decides functions-kinds.ps functions-kinds.r functions-reads.Post
functions-decides κs a x y s t p q = p ∙ sym q

pub memories-decides : Decides memories-kinds.ps memories-kinds.r memories-reads.Post
memories-decides κs a x y s t p q = p ∙ sym q

pub token-decides : Decides token-kinds.ps token-kinds.r token-reads.Post
token-decides κs a x y s t p q = p ∙ sym q

pub evaluate-decides : Decides evaluate-kinds.ps evaluate-kinds.r evaluate-reads.Post
evaluate-decides κs a x y s t p q = p ∙ sym q

-- the promise is taken here as a clause that holds of a state, and not as a `Post`
module _ {M : Type 1} {𝓤 : Ura M} (𝓛 : Logic 𝓤) (mem : Memory → SProp 𝓤) (run : Routine → Fun 𝓤) (κs : Lfts 2)
    (a : ArgsD records.signature κs) where
  abbrev Says : ResD records.signature κs → AtExit records.ended κs → SProp 𝓤
  Says x s = (records.clauses 𝓛 mem run κs a).ensures tt x s

  abbrev told : EvaluationTold
  told = evaluation_told (evaluated (numbers a.0.now) a.1.0 (policy_in a.1.1.0.now))

  pub evaluate-records-decides : (x y : ResD records.signature κs) (s t : AtExit records.ended κs)
      → ent 𝓤 (sep 𝓤 (Says x s) (Says y t)) (fact 𝓤 (x ≡ y))
  evaluate-records-decides x y s t =
      fact_use 𝓤 (x ≡ told) (fst∗ 𝓤 (Says x s) (Says y t)) (λ p.
      fact_use 𝓤 (y ≡ told) (snd∗ 𝓤 (Says x s) (Says y t)) (λ q.
      fact_i 𝓤 (x ≡ y) (sep 𝓤 (Says x s) (Says y t)) (p ∙ sym q)))

pub import-decides : Decides import-kinds.ps import-kinds.r import-reads.Post
import-decides κs a x y s t p q = p ∙ sym q

pub path-decides : Decides path-kinds.ps path-kinds.r path-reads.Post
path-decides κs a x y s t p q = p ∙ sym q

pub module-decides : Decides module-kinds.ps module-kinds.r module-reads.Post
module-decides κs a x y s t p q = p.answer-is ∙ sym q.answer-is

pub judged-strict-decides : Decides strict-kinds.ps strict-kinds.r strict-reads.Post
judged-strict-decides κs a x y s t p q = p.answer-is ∙ sym q.answer-is

pub namespaces-decides : Decides namespaces-kinds.ps namespaces-kinds.r namespaces-reads.Post
namespaces-decides κs a x y s t p q = p.answer-is ∙ sym q.answer-is

pub requirements-decides : Decides requirements-kinds.ps requirements-kinds.r requirements-reads.Post
requirements-decides κs a x y s t p q = p.answer-is ∙ sym q.answer-is

pub manifest-decides : Decides manifest-kinds.ps manifest-kinds.r manifest-reads.Post
manifest-decides κs a x y s t p q = p.answer-is ∙ sym q.answer-is

pub write-decides : Decides write-kinds.ps write-kinds.r write-reads.Post
write-decides κs a x y s t p q = p.answer-is ∙ sym q.answer-is

-- every cell of the tables
module _ (κs : Lfts 5) (a : Dens κs module-kinds.ps) (x y : (res_t module-kinds.r κs).Denot)
    (s t : AtExit (ended_of 5 module-kinds.ps module-kinds.r) κs) (p : module-reads.Post κs a x s) (q : module-reads.Post κs a y t) where
  pub sections-left : s.1.0.now ≡ t.1.0.now
  sections-left = p.tables-are.sections-are ∙ sym q.tables-are.sections-are

  pub imports-left : s.1.1.0.now ≡ t.1.1.0.now
  imports-left = p.tables-are.imports-are ∙ sym q.tables-are.imports-are

  pub exports-left : s.1.1.1.0.now ≡ t.1.1.1.0.now
  exports-left = p.tables-are.exports-are ∙ sym q.tables-are.exports-are

  pub names-left : s.1.1.1.1.0.now ≡ t.1.1.1.1.0.now
  names-left = p.tables-are.names-are ∙ sym q.tables-are.names-are

module _ (κs : Lfts 5) (a : Dens κs strict-kinds.ps) (x y : (res_t strict-kinds.r κs).Denot)
    (s t : AtExit (ended_of 5 strict-kinds.ps strict-kinds.r) κs) (p : strict-reads.Post κs a x s) (q : strict-reads.Post κs a y t) where
  pub strict-sections-left : s.1.0.now ≡ t.1.0.now
  strict-sections-left = p.tables-are.sections-are ∙ sym q.tables-are.sections-are

  pub strict-imports-left : s.1.1.0.now ≡ t.1.1.0.now
  strict-imports-left = p.tables-are.imports-are ∙ sym q.tables-are.imports-are

  pub strict-exports-left : s.1.1.1.0.now ≡ t.1.1.1.0.now
  strict-exports-left = p.tables-are.exports-are ∙ sym q.tables-are.exports-are

  pub strict-names-left : s.1.1.1.1.0.now ≡ t.1.1.1.1.0.now
  strict-names-left = p.tables-are.names-are ∙ sym q.tables-are.names-are

pub namespaces-leaves : (κs : Lfts 3) (a : Dens κs namespaces-kinds.ps) (x y : (res_t namespaces-kinds.r κs).Denot)
    (s t : AtExit (ended_of 3 namespaces-kinds.ps namespaces-kinds.r) κs)
    → namespaces-reads.Post κs a x s → namespaces-reads.Post κs a y t → s.1.1.1.0.now ≡ t.1.1.1.0.now
namespaces-leaves κs a x y s t p q = p.table_is ∙ sym q.table_is

pub write-leaves : (κs : Lfts 3) (a : Dens κs write-kinds.ps) (x y : (res_t write-kinds.r κs).Denot)
    (s t : AtExit (ended_of 3 write-kinds.ps write-kinds.r) κs)
    → write-reads.Post κs a x s → write-reads.Post κs a y t → s.1.1.0.now ≡ t.1.1.0.now
write-leaves κs a x y s t p q = p.output-is ∙ sym q.output-is

module _ (κs : Lfts 3) (a : Dens κs manifest-kinds.ps) (x y : (res_t manifest-kinds.r κs).Denot)
    (s t : AtExit (ended_of 3 manifest-kinds.ps manifest-kinds.r) κs)
    (p : manifest-reads.Post κs a x s) (q : manifest-reads.Post κs a y t) where
  pub worlds-left : s.1.0.now ≡ t.1.0.now
  worlds-left = p.tables-are.worlds-are ∙ sym q.tables-are.worlds-are

  pub references-left : s.1.1.0.now ≡ t.1.1.0.now
  references-left = p.tables-are.references-are ∙ sym q.tables-are.references-are

module _ (κs : Lfts 4) (a : Dens κs requirements-kinds.ps) (x y : (res_t requirements-kinds.r κs).Denot)
    (s t : AtExit (ended_of 4 requirements-kinds.ps requirements-kinds.r) κs)
    (p : requirements-reads.Post κs a x s) (q : requirements-reads.Post κs a y t) where
  pub domains-left : s.1.1.0.now ≡ t.1.1.0.now
  domains-left = p.domains-are ∙ sym q.domains-are

  pub rows_left : s.1.1.1.0.now ≡ t.1.1.1.0.now
  rows_left = p.rows_are ∙ sym q.rows_are

pub all-imports-decides : Decides all-imports-kinds.ps all-imports-kinds.r all-imports-reads.Post
all-imports-decides κs a x y s t p q = p.answer-is ∙ sym q.answer-is

pub all-imports-leave : (κs : Lfts 4) (a : Dens κs all-imports-kinds.ps) (x y : (res_t all-imports-kinds.r κs).Denot)
    (s t : AtExit (ended_of 4 all-imports-kinds.ps all-imports-kinds.r) κs)
    → all-imports-reads.Post κs a x s → all-imports-reads.Post κs a y t → s.1.1.1.0.now ≡ t.1.1.1.0.now
all-imports-leave κs a x y s t p q = p.table_is ∙ sym q.table_is

pub all-exports-decides : Decides all-exports-kinds.ps all-exports-kinds.r all-exports-reads.Post
all-exports-decides κs a x y s t p q = p.answer-is ∙ sym q.answer-is

pub all-exports-leave : (κs : Lfts 4) (a : Dens κs all-exports-kinds.ps) (x y : (res_t all-exports-kinds.r κs).Denot)
    (s t : AtExit (ended_of 4 all-exports-kinds.ps all-exports-kinds.r) κs)
    → all-exports-reads.Post κs a x s → all-exports-reads.Post κs a y t → s.1.1.1.0.now ≡ t.1.1.1.0.now
all-exports-leave κs a x y s t p q = p.table_is ∙ sym q.table_is

pub needs-decides : Decides needs-kinds.ps needs-kinds.r needs-reads.Post
needs-decides κs a x y s t p q = p.answer-is ∙ sym q.answer-is

module _ (κs : Lfts 5) (a : Dens κs needs-kinds.ps) (x y : (res_t needs-kinds.r κs).Denot)
    (s t : AtExit (ended_of 5 needs-kinds.ps needs-kinds.r) κs) (p : needs-reads.Post κs a x s) (q : needs-reads.Post κs a y t) where
  pub needs-domains-left : s.1.1.1.0.now ≡ t.1.1.1.0.now
  needs-domains-left = p.domains-are ∙ sym q.domains-are

  pub needs-rows-left : s.1.1.1.1.0.now ≡ t.1.1.1.1.0.now
  needs-rows-left = p.rows_are ∙ sym q.rows_are

pub compare-decides : Decides compare-kinds.ps compare-kinds.r compare-reads.Post
compare-decides κs a x y s t p q = p.answer-is ∙ sym q.answer-is

module _ (κs : Lfts 7) (a : Dens κs compare-kinds.ps) (x y : (res_t compare-kinds.r κs).Denot)
    (s t : AtExit (ended_of 7 compare-kinds.ps compare-kinds.r) κs)
    (p : compare-reads.Post κs a x s) (q : compare-reads.Post κs a y t) where
  pub export-changes-left : s.1.1.1.1.1.1.0.now ≡ t.1.1.1.1.1.1.0.now
  export-changes-left = p.table8-is ∙ sym q.table8-is

  pub capability-changes-left : s.1.1.1.1.1.1.1.0.now ≡ t.1.1.1.1.1.1.1.0.now
  capability-changes-left = p.table9-is ∙ sym q.table9-is

pub reasons-decides : Decides reasons-kinds.ps reasons-kinds.r reasons-reads.Post
reasons-decides κs a x y s t p q = p.answer-is ∙ sym q.answer-is

pub reasons-leave : (κs : Lfts 9) (a : Dens κs reasons-kinds.ps) (x y : (res_t reasons-kinds.r κs).Denot)
    (s t : AtExit (ended_of 9 reasons-kinds.ps reasons-kinds.r) κs)
    → reasons-reads.Post κs a x s → reasons-reads.Post κs a y t
    → s.1.1.1.1.1.1.1.1.0.now ≡ t.1.1.1.1.1.1.1.1.0.now
reasons-leave κs a x y s t p q = p.output-is ∙ sym q.output-is

pub export-name-decides : Decides export-name-kinds.ps export-name-kinds.r export-name-reads.Post
export-name-decides κs a x y s t p q = p ∙ sym q

pub source-name-decides : Decides source-name-kinds.ps source-name-kinds.r source-name-reads.Post
source-name-decides κs a x y s t p q = p ∙ sym q

pub u8-decides : Decides u8-kinds.ps u8-kinds.r u8-reads.Post
u8-decides κs a x y s t p q = p ∙ sym q

pub u32-le-decides : Decides u32-le-kinds.ps u32-le-kinds.r u32-le-reads.Post
u32-le-decides κs a x y s t p q = p ∙ sym q

pub take-decides : Decides take-kinds.ps take-kinds.r take-reads.Post
take-decides κs a x y s t p q = p ∙ sym q

pub skip-decides : Decides skip-kinds.ps skip-kinds.r skip-reads.Post
skip-decides κs a x y s t p q = p ∙ sym q

pub left-decides : Decides left-kinds.ps left-kinds.r left-reads.Post
left-decides κs a x y s t p q = p ∙ sym q

pub kind-decides : Decides kind-kinds.ps kind-kinds.r kind-reads.Post
kind-decides κs a x y s t p q = p ∙ sym q

pub kind-byte-decides : Decides kind-byte-kinds.ps kind-byte-kinds.r kind-byte-reads.Post
kind-byte-decides κs a x y s t p q = p ∙ sym q

pub section-decides : Decides section-kinds.ps section-kinds.r section-reads.Post
section-decides κs a x y s t p q = p ∙ sym q

pub change-decides : Decides change-kinds.ps change-kinds.r change-reads.Post
change-decides κs a x y s t p q = p ∙ sym q

pub slug-decides : Decides slug-kinds.ps slug-kinds.r slug-reads.Post
slug-decides κs a x y s t p q = p ∙ sym q

pub domain-decides : Decides domain-kinds.ps domain-kinds.r domain-reads.Post
domain-decides κs a x y s t p q = p ∙ sym q

pub effective-decides : Decides effective-kinds.ps effective-kinds.r effective-reads.Post
effective-decides κs a x y s t p q = p ∙ sym q
