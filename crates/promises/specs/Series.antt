-- Of whatever satisfies the promises of the calls: the ends of a series of files, two files of which each can replace the other, and two
-- policies by what their answers allow. Assumes nothing.
use Rattle.std.specs.Prelude.{ℕ, zero, suc, ◌+◌, ◌<◌, ◌≡◌, refl, ◌↔◌, Bool, true, false, List, [], ◌∷◌, eqb, ltb, length, get_or}
use Rattle.std.proofs.Common.{arith, sym, ◌∙◌, ap, ap₂}
use contract.Lifetimes.{Lfts}
use borrow.Fn.Kinds.{Dens, res_t, ended_of}
use denote.Triple.Clauses.{AtExit}
use Rattle.refusal.specs.Pick.{pick}
use Rattle.refusal.specs.Sizes.{text_limit}
use Rattle.refusal.specs.Said.{Said, accepted, refused, follow, Place, spot, offset}
use Rattle.refusal.proofs.Following.{never}
use Rattle.text.specs.Utf8.{up_to}
use Rattle.text.specs.Whole.{whole_text}
use Rattle.text.specs.Piece.{Piece}
use Rattle.conform.specs.Claims.{Bytes}
use Rattle.policy.specs.declared.Policy.{Policy}
use Rattle.policy.specs.declared.Stance.{Stance}
use Rattle.policy.specs.declared.Stance.TheVariants.{None, Allow, Deny}
use Rattle.policy.specs.Piece.{lines_of}
use Rattle.policy.specs.Directive.{policy_directive, fault}
use Rattle.policy.specs.Eight.{slot_of}
use Rattle.policy.specs.Reader.{run, read_with, zero_policy, obey, read_policy}
use Rattle.verdicts.specs.Evaluate.{slot_rule, effective_of}
use Rattle.verdicts.specs.declared.Rule.{Rule}
use Rattle.output.specs.Bytes.{room_for, left}
use Rattle.listed.specs.Delivered.{housed, Delivers}
use Rattle.listed.specs.Comparisons.{Comparison, comparison_bytes, comparison_told, comparison}
use Rattle.listed.specs.declared.comparison.ComparisonTold.{ComparisonTold}
use Rattle.differences.specs.declared.Change.{Change}
use Rattle.differences.specs.View.{ExportKey, Need}
use Rattle.differences.specs.Compared.{verdict_on}
use Rattle.told.specs.Policies.{number_in}
use Rattle.capi.specs.Policies.{stance_number, policy_shown, policy_told}
use Rattle.capi.specs.declared.policies.PolicyTold.{PolicyTold}
use Rattle.capi.proofs.lists.viscrombal_compare.Kinds as compare-kinds
use Rattle.capi.proofs.lists.viscrombal_compare.Reads as compare
use Rattle.capi.proofs.policies.viscrombal_policy.Kinds as policy-kinds
use Rattle.capi.proofs.policies.viscrombal_policy.Reads as policy
use Rattle.covering.specs.Replacing.{Reports}
use Rattle.standin.specs.Builds.{Clear, Replaces, last_file}
use Rattle.series.specs.Steps.{SomeStep, ExportReported, NeedReported, FileSeries}
use Rattle.series.proofs.Theorems.{length_none}
use Rattle.series.proofs.Files.{of-file-series, each-other}
use Rattle.series.proofs.Policies.{allowing}
use Rattle.promises.specs.Standins.{compare-says}

-- ---- `viscrombal_compare`
-- what an answer has of an accepted comparison: the counts of its lists, and their rows and the reasons in the buffer, which was d and is y
pub record Holds (v : Comparison) (d : List ℕ) (r : ComparisonTold) (y : List ℕ) : Type 0 where
  pub exports-told : r.exports ≡ length v.lists.exports
  pub needs-told : r.capabilities ≡ length v.lists.needs
  pub buffer : y ≡ left d (accepted (comparison_bytes v))

-- it has them where its number is 0
holds : (f g d y : List ℕ) (r : ComparisonTold) → Delivers comparison_bytes comparison_told (comparison f g) d r y
    → (v : Comparison) → comparison f g ≡ accepted v → r.number ≡ 0 → Holds v d r y
unfolding housed follow room_for verdict_on
holds f g d y r p v e z = roomy (ltb (length d) (length (comparison_bytes v))) (p.answer-is ∙ ap told e) (p.output-is ∙ ap written e)
  where
    told : Said Comparison → ComparisonTold
    told x = comparison_told (housed comparison_bytes (length d) x)

    written : Said Comparison → List ℕ
    written x = left d (follow (housed comparison_bytes (length d) x) (λ w. accepted (comparison_bytes w)))

    put : Bool → Said Comparison
    put t = follow (pick t (refused 16 (spot (length (comparison_bytes v)))) (accepted (comparison_bytes v))) (λ w. accepted v)

    roomy : (t : Bool) → r ≡ comparison_told (put t) → y ≡ left d (follow (put t) (λ w. accepted (comparison_bytes w))) → Holds v d r y
    roomy true q k = absurd (omega (arith, z, ap (λ (x : ComparisonTold). x.number) q))
    roomy false q k =
        record {
          exports-told = ap (λ (x : ComparisonTold). x.exports) q;
          needs-told = ap (λ (x : ComparisonTold). x.capabilities) q;
          buffer = k;
        }

-- an answer that has two lists, of whose changes each is one that the comparison of some step reports
pub record BySteps (f : List ℕ) (gs : List (List ℕ)) (d : List ℕ) (r : ComparisonTold) (y : List ℕ) : Type 0 where
  pub all : Comparison
  pub has : Holds all d r y
  pub exports : (h : Change) (e : ExportKey) → Reports h e all.lists.exports → SomeStep f gs (ExportReported h e)
  pub needs : (h : Change) (n : Need) → Reports h n all.lists.needs → SomeStep f gs (NeedReported h n)

module _ (κs : Lfts 3) (a : Dens κs compare-kinds.ps) (r : (res_t compare-kinds.r κs).Denot)
    (s : AtExit (ended_of 3 compare-kinds.ps compare-kinds.r) κs) (p : compare.Post κs a r s) where
  abbrev baseline : List ℕ
  baseline = a.0.now

  abbrev candidate : List ℕ
  candidate = a.1.0.now

  answer-holds : (v : Comparison) → comparison baseline candidate ≡ accepted v → r.number ≡ 0
      → Holds v a.1.1.0.now r s.1.1.0.now
  answer-holds = holds baseline candidate a.1.1.0.now s.1.1.0.now r p

  -- Where the baseline is the first and the candidate the last of a series of files, and the number is 0, every change that the answer
  -- tells, of an export or of a pair, the comparison of some step reports.
  pub steps-say : (f g : List ℕ) (gs : List (List ℕ)) → Bytes f → FileSeries f (g ∷ gs) → baseline ≡ f → candidate ≡ last_file g gs
      → r.number ≡ 0 → BySteps f (g ∷ gs) a.1.1.0.now r s.1.1.0.now
  steps-say f g gs bytes series first last z =
      let c = of-file-series.ends f g gs bytes series in
      record {
        all = c.all;
        has = answer-holds c.all (ap₂ comparison first last ∙ c.answers) z;
        exports = λ h e m.
            of-file-series.exports f (g ∷ gs) h e bytes series (record { all = c.all; answers = c.answers; reports = m });
        needs = λ h n m. of-file-series.needs f (g ∷ gs) h n bytes series (record { all = c.all; answers = c.answers; reports = m });
      }

  -- an answer says compatible, and counts no difference, exactly where each of the two files can replace the other and the number is 0
  pub each-says : Bytes baseline → Bytes candidate
      → ((r.compatible ≡ true) × (r.exports ≡ 0) × (r.capabilities ≡ 0))
      ↔ (Replaces baseline candidate × Replaces candidate baseline × (r.number ≡ 0))
  each-says bytes more = (forth, back)
    where
      forth : (r.compatible ≡ true) × (r.exports ≡ 0) × (r.capabilities ≡ 0)
          → Replaces baseline candidate × Replaces candidate baseline × (r.number ≡ 0)
      forth h =
          let c = (compare-says κs a r s p).0 h.0 in
          let v = c.0.all in
          let k = answer-holds v c.0.answers c.1 in
          let m = (length_none v.lists.exports).1 (sym k.exports-told ∙ h.1) in
          let n = (length_none v.lists.needs).1 (sym k.needs-told ∙ h.2) in
          (c.0, ((each-other.files baseline candidate v bytes more c.0.answers).1 (m, n)).1, c.1)

      back : Replaces baseline candidate × Replaces candidate baseline × (r.number ≡ 0)
          → (r.compatible ≡ true) × (r.exports ≡ 0) × (r.capabilities ≡ 0)
      back h =
          let v = h.0.all in
          let k = answer-holds v h.0.answers h.2 in
          let e = (each-other.files baseline candidate v bytes more h.0.answers).0 (h.0, h.1) in (
            (compare-says κs a r s p).1 (h.0, h.2),
            k.exports-told ∙ (length_none v.lists.exports).0 e.0,
            k.needs-told ∙ (length_none v.lists.needs).0 e.1,
          )

-- ---- `viscrombal_policy`
-- what the struct says of domain d: its rule, or the default where it has none
abbrev pub told_allows : PolicyTold → ℕ → Bool
told_allows r d = stance_allows (get_or r.rules d (record { stance = 0; from = 0; len = 0 })).stance
  where
    stance_allows : ℕ → Bool
    stance_allows n = pick (eqb n 0) r.permit (eqb n 1)

-- it is what holds for the domain
shown-allows : (p : Policy) (d : ℕ) → d < 7 → told_allows (policy_shown 0 0 p) d ≡ (effective_of p d).allow
unfolding effective_of
shown-allows p = each
  where
    rule : ℕ → Stance → Rule
    rule d t =
        elim t [
          | None ↦ record { allow = p.permit; from = 0; len = 0 }
          | Allow ↦ slot_rule true (slot_of p d)
          | Deny ↦ slot_rule false (slot_of p d)
        ]

    by : (d : ℕ) (t : Stance) → pick (eqb (stance_number t) 0) p.permit (eqb (stance_number t) 1) ≡ (rule d t).allow
    by d None = refl
    by d Allow = refl
    by d Deny = refl

    each : (d : ℕ) → d < 7 → told_allows (policy_shown 0 0 p) d ≡ (effective_of p d).allow
    each zero h = by 0 (slot_of p 0).stance
    each (suc zero) h = by 1 (slot_of p 1).stance
    each (suc (suc zero)) h = by 2 (slot_of p 2).stance
    each (suc (suc (suc zero))) h = by 3 (slot_of p 3).stance
    each (suc (suc (suc (suc zero)))) h = by 4 (slot_of p 4).stance
    each (suc (suc (suc (suc (suc zero))))) h = by 5 (slot_of p 5).stance
    each (suc (suc (suc (suc (suc (suc zero)))))) h = by 6 (slot_of p 6).stance
    each (suc (suc (suc (suc (suc (suc (suc d))))))) h = absurd (omega arith)

-- no refusal of a policy's text has the number 0
text-number : (t : List ℕ) (n : ℕ) (i : Place) → whole_text t ≡ refused n i → n ≡ 0 → ⊥
unfolding whole_text
text-number t n i e z = by (ltb text_limit (length t)) (ltb (up_to t) (length t)) e
  where
    by : (s u : Bool) → ◌≡◌ {A = Said (Unit {0})} (pick s (refused 14 (spot 0)) (pick u (refused 4 (offset (up_to t))) (accepted tt))) (refused n i) → ⊥
    by true u e = omega (arith, z, ap number_in e)
    by false true e = omega (arith, z, ap number_in e)
    by false false e = never (sym e)

lines-number : (m : ℕ) (st : Policy) (ps : List Piece) (n : ℕ) (i : Place) → run obey m st ps ≡ refused n i → n ≡ 0 → ⊥
unfolding run
lines-number m st [] n i e z = never (sym e)
lines-number m st (p ∷ ps) n i e z = by (fault (policy_directive p)) e (lines-number (m + 1) (obey (policy_directive p) st) ps n i)
  where
    rest : Said Policy
    rest = run obey (m + 1) (obey (policy_directive p) st) ps

    by : (k : ℕ) → ◌≡◌ {A = Said Policy} (elim k [ zero ↦ rest | suc k ↦ refused (suc k) (spot m) ]) (refused n i)
        → (rest ≡ refused n i → n ≡ 0 → ⊥) → ⊥
    by zero e ih = ih e z
    by (suc k) e ih = omega (arith, z, ap number_in e)

policy-number : (t : List ℕ) (n : ℕ) (i : Place) → read_policy t ≡ refused n i → n ≡ 0 → ⊥
unfolding read_policy read_with follow
policy-number t n i e z = by (whole_text t) refl e
  where
    by : (x : Said (Unit {0})) → whole_text t ≡ x → follow x (λ ok. run obey 1 zero_policy (lines_of t)) ≡ refused n i → ⊥
    by (accepted u) q e = lines-number 1 zero_policy (lines_of t) n i e z
    by (refused m j) q e = text-number t m j q (ap number_in e ∙ z)

-- a text whose answer has the number 0 is read, as a policy that allows what the answer allows
record ReadAs (t : List ℕ) (r : PolicyTold) : Type 0 where
  policy : Policy
  reads : read_policy t ≡ accepted policy
  allows : (d : ℕ) → d < 7 → told_allows r d ≡ (effective_of policy d).allow

read_as : (t : List ℕ) (r : PolicyTold) → r ≡ policy_told (read_policy t) → r.number ≡ 0 → ReadAs t r
read_as t r q z = by (read_policy t) refl q
  where
    by : (x : Said Policy) → read_policy t ≡ x → r ≡ policy_told x → ReadAs t r
    by (accepted p) e q =
        record {
          policy = p;
          reads = e;
          allows = λ d h. ap (λ (w : PolicyTold). told_allows w d) q ∙ shown-allows p d h;
        }
    by (refused n i) e q = absurd (policy-number t n i e (sym (ap (λ (w : PolicyTold). w.number) q) ∙ z))

module _ (κs : Lfts 1) (a : Dens κs policy-kinds.ps) (r : (res_t policy-kinds.r κs).Denot)
    (s : AtExit (ended_of 1 policy-kinds.ps policy-kinds.r) κs) (p : policy.Post κs a r s)
    (λs : Lfts 1) (b : Dens λs policy-kinds.ps) (x : (res_t policy-kinds.r λs).Denot)
    (t : AtExit (ended_of 1 policy-kinds.ps policy-kinds.r) λs) (q : policy.Post λs b x t) where
  -- Of two texts that are read: the answer of the second allows every domain that the answer of the first allows exactly where every file
  -- that passes under the first passes under the second.
  pub allowed-says : r.number ≡ 0 → x.number ≡ 0
      → ((d : ℕ) → d < 7 → told_allows r d ≡ true → told_allows x d ≡ true)
      ↔ ((f : List ℕ) → Bytes f → Clear f a.0.now → Clear f b.0.now)
  allowed-says y z =
      let m = read_as a.0.now r p y in
      let n = read_as b.0.now x q z in
      let e = allowing.texts m.policy n.policy a.0.now b.0.now m.reads n.reads in (
        (λ h. e.0 (λ d k o. sym (n.allows d k) ∙ h d k (m.allows d k ∙ o))),
        λ f d k o. n.allows d k ∙ e.1 f d k (sym (m.allows d k) ∙ o),
      )
