-- The registry's first question, of whatever satisfies the promises of the calls: what `compatible` and `compliant` in an answer say of the
-- files, and that both are false after a refusal. A comparison that is always compatible is ruled out. Assumes nothing.
use Rattle.std.specs.Prelude.{Ok, ℕ, ◌≡◌, refl, ◌↔◌, Bool, true, false, List, ltb, length}
use Rattle.std.proofs.Common.{arith, sym, ◌∙◌, ap, ap₂, subst, true≢false, eqb-true, eq-eqb}
use contract.Lifetimes.{Lfts}
use borrow.Fn.Kinds.{Dens, res_t, ended_of}
use denote.Triple.Clauses.{AtExit}
use Rattle.refusal.specs.Pick.{pick}
use Rattle.refusal.specs.Said.{Said, accepted, refused, follow, spot}
use Rattle.refusal.proofs.Following.{never, one_value}
use Rattle.table.specs.Shape.{capacity_in}
use Rattle.verdicts.specs.Evaluate.{Outcome}
use Rattle.output.specs.Bytes.{room_for}
use Rattle.differences.specs.Compared.{Given, given_of, compared, verdict_on}
use Rattle.compat.specs.declared.Lists.{Lists}
use Rattle.compat.proofs.compare_modules.Kinds as compare-modules-kinds
use Rattle.compat.proofs.compare_modules.Reads as compare-modules
use Rattle.conform.specs.Claims.{Bytes}
use Rattle.checking.specs.Checking.{checked_of}
use Rattle.listed.specs.Delivered.{housed, Delivers}
use Rattle.listed.specs.Comparisons.{Comparison, comparison_bytes, comparison_told, comparison}
use Rattle.listed.specs.declared.comparison.ComparisonTold.{ComparisonTold}
use Rattle.told.specs.Check.{evaluation_told}
use Rattle.told.specs.declared.check.EvaluationTold.{EvaluationTold}
use Rattle.capi.proofs.lists.viscrombal_compare.Kinds as compare-kinds
use Rattle.capi.proofs.lists.viscrombal_compare.Reads as compare
use Rattle.capi.proofs.check.viscrombal_check.Kinds as check-kinds
use Rattle.capi.proofs.check.viscrombal_check.Reads as check
use Rattle.standin.specs.Builds.{Build, handed, Clear, Replaces, FileChain, last_file}
use Rattle.standin.specs.Claims.{Covers}
use Rattle.standin.proofs.Theorems.{replacement}
use Rattle.standin.proofs.Files.{of-files}

-- ---- `compare_modules`
module _ (κs : Lfts 6) (a : Dens κs compare-modules-kinds.ps)
    (s : AtExit (ended_of 6 compare-modules-kinds.ps compare-modules-kinds.r) κs) where
  abbrev baseline : Given
  baseline = given_of a.0

  abbrev candidate : Given
  candidate = given_of a.1.0

  abbrev room8 : ℕ
  room8 = capacity_in 8 (length a.1.1.0.now)

  abbrev room9 : ℕ
  room9 = capacity_in 9 (length a.1.1.1.0.now)

  abbrev answered : ℕ → ℕ → Bool → Lists
  answered m n fine = record { exports = m; capabilities = n; compatible = fine }

  -- of two builds, whatever room is lent: an answer says compatible only where the candidate has every export of the baseline and needs no
  -- pair that it does not
  pub compatible-covers : (b c : Build) (m n : ℕ) → baseline ≡ handed b → candidate ≡ handed c
      → compare-modules.Post κs a (Ok (answered m n true)) s → Covers b c
  compatible-covers b c m n e f p =
      (replacement.means b c room8 room9 (record { exports = m; capabilities = n; compatible = true })
      (sym (p.answer-is ∙ ap₂ (λ (x y : Given). follow (compared x y room8 room9) (λ l. accepted (verdict_on l))) e f))).0 refl

  -- and one that says that it is not, only where this fails
  pub incompatible-not : (b c : Build) (m n : ℕ) → baseline ≡ handed b → candidate ≡ handed c
      → compare-modules.Post κs a (Ok (answered m n false)) s → Covers b c → ⊥
  incompatible-not b c m n e f p k =
      true≢false (sym ((replacement.means b c room8 room9 (record { exports = m; capabilities = n; compatible = false })
      (sym (p.answer-is ∙ ap₂ (λ (x y : Given). follow (compared x y room8 room9) (λ l. accepted (verdict_on l))) e f))).1 k))

-- ---- `viscrombal_compare`
-- what the struct says of an answer
says-compatible : (f g d y : List ℕ) (r : ComparisonTold) → Delivers comparison_bytes comparison_told (comparison f g) d r y
    → (r.compatible ≡ true) ↔ (Replaces f g × (r.number ≡ 0))
unfolding housed follow room_for
says-compatible f g d y r p = by (comparison f g) refl p.answer-is
  where
    Says : Type 0
    Says = (r.compatible ≡ true) ↔ (Replaces f g × (r.number ≡ 0))

    put : Comparison → Bool → Said (List ℕ)
    put v t = pick t (refused 16 (spot (length (comparison_bytes v)))) (accepted (comparison_bytes v))

    roomy : (v : Comparison) → comparison f g ≡ accepted v → (t : Bool) → r ≡ comparison_told (follow (put v t) (λ w. accepted v)) → Says
    roomy v e true q = (
      (λ h. absurd (true≢false (sym h ∙ ap (λ (x : ComparisonTold). x.compatible) q))),
      λ h. absurd (omega (arith, h.1, ap (λ (x : ComparisonTold). x.number) q)),
    )
    roomy v e false q =
        let fine : r.compatible ≡ (verdict_on v.lists).compatible = ap (λ (x : ComparisonTold). x.compatible) q in (
          (λ h. (record { all = v; answers = e; says = sym fine ∙ h }, ap (λ (x : ComparisonTold). x.number) q)),
          λ h.
              fine ∙ ap (λ (x : Comparison). (verdict_on x.lists).compatible) (one_value (sym e ∙ h.0.answers)) ∙ h.0.says,
        )

    by : (x : Said Comparison) → comparison f g ≡ x → r ≡ comparison_told (housed comparison_bytes (length d) x) → Says
    by (accepted v) e q = roomy v e (ltb (length d) (length (comparison_bytes v))) q
    by (refused n i) e q = (
      (λ h. absurd (true≢false (sym h ∙ ap (λ (x : ComparisonTold). x.compatible) q))),
      λ h. absurd (never (sym e ∙ h.0.answers)),
    )

module _ (κs : Lfts 3) (a : Dens κs compare-kinds.ps) (r : (res_t compare-kinds.r κs).Denot)
    (s : AtExit (ended_of 3 compare-kinds.ps compare-kinds.r) κs) (p : compare.Post κs a r s) where
  -- an answer says compatible exactly where the candidate's file can replace the baseline's and the number is 0
  pub compare-says : (r.compatible ≡ true) ↔ (Replaces a.0.now a.1.0.now × (r.number ≡ 0))
  compare-says = says-compatible a.0.now a.1.0.now a.1.1.0.now s.1.1.0.now r p

  -- so after a refusal, 16 too, it does not
  pub compare-refused : (r.number ≡ 0 → ⊥) → r.compatible ≡ false
  compare-refused n = by r.compatible refl
    where
      by : (t : Bool) → r.compatible ≡ t → t ≡ false
      by true e = absurd (n (compare-says.0 e).1)
      by false e = refl

-- ---- `viscrombal_check`
says-compliant : (f t : List ℕ) (r : EvaluationTold) → r ≡ evaluation_told (checked_of f t) → (r.compliant ≡ true) ↔ Clear f t
says-compliant f t r p = by (checked_of f t) refl p
  where
    by : (x : Said Outcome) → checked_of f t ≡ x → r ≡ evaluation_told x → (r.compliant ≡ true) ↔ Clear f t
    by (accepted o) e q = (
      (λ h. record {
        outcome = o;
        answers = e;
        none = eqb-true o.count 0 (sym (ap (λ (x : EvaluationTold). x.compliant) q) ∙ h);
      }),
      λ c. ap (λ (x : EvaluationTold). x.compliant) q
          ∙ eq-eqb o.count 0 (ap (λ (x : Outcome). x.count) (one_value (sym e ∙ c.answers)) ∙ c.none),
    )
    by (refused n i) e q = (
      (λ h. absurd (true≢false (sym h ∙ ap (λ (x : EvaluationTold). x.compliant) q))),
      λ c. absurd (never (sym e ∙ c.answers)),
    )

-- an answer whose number is not 0 is no outcome
refused-compliant : (x : Said Outcome) → ((evaluation_told x).number ≡ 0 → ⊥) → (evaluation_told x).compliant ≡ false
refused-compliant (accepted o) n = absurd (n refl)
refused-compliant (refused n i) h = refl

module _ (κs : Lfts 2) (a : Dens κs check-kinds.ps) (r : (res_t check-kinds.r κs).Denot)
    (s : AtExit (ended_of 2 check-kinds.ps check-kinds.r) κs) (p : check.Post κs a r s) where
  -- an answer says compliant exactly where the whole check is accepted and no domain violates
  pub check-says : (r.compliant ≡ true) ↔ Clear a.0.now a.1.0.now
  check-says = says-compliant a.0.now a.1.0.now r p

  -- and after a refusal it does not
  pub check-refused : (r.number ≡ 0 → ⊥) → r.compliant ≡ false
  check-refused n = rw p (refused-compliant (checked_of a.0.now a.1.0.now) (rw (← p) n))

  -- ---- the two calls together
  -- Where a file is the last of a chain of files, each of which `viscrombal_compare` says can replace the one before it, and the check of
  -- the first passes under a text, every answer to the check of the last under that text says compliant.
  pub checks-along : (f : List ℕ) (gs : List (List ℕ)) → Bytes f → FileChain f gs → a.0.now ≡ last_file f gs
      → Clear f a.1.0.now → r.compliant ≡ true
  checks-along f gs bytes c e q =
      check-says.1 (subst (λ (x : List ℕ). Clear x a.1.0.now) (sym e) (of-files.checks f gs bytes c a.1.0.now q))
