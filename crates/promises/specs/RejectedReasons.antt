-- Answers that the promises of the comparison and of the reasons rule out. Assumes nothing.
use Rattle.std.specs.Prelude.{Ok, ℕ, zero, suc, ◌+◌, ◌≤◌, ◌<◌, refl, List, ◌++◌, ltb, length, take, drop}
use native.Mathlib.Omega.{arith}
use Rattle.std.proofs.Math.Path.{◌≡◌, ap}
use Rattle.std.proofs.Common.{sym, ◌∙◌, ltb-true, ltb-false, eq-eqb, length-append, take_at}
use Rattle.std.proofs.Math.Bool.{Bool, true, false}
use contract.Lifetimes.{Lfts}
use borrow.Fn.Kinds.{Dens, ended_of}
use denote.Triple.Clauses.{AtExit}
use Rattle.refusal.specs.Pick.{pick}
use Rattle.refusal.specs.Said.{Said, accepted, refused, follow, spot}
use Rattle.refusal.proofs.Following.{never, followed}
use Rattle.table.specs.Shape.{capacity_in, cell_in}
use Rattle.differences.specs.View.{export_key_at}
use Rattle.differences.specs.Compared.{Given, given_of, Lists, compared, Verdict, verdict_on}
use Rattle.compat.specs.declared.Lists.{Lists as Answered}
use Rattle.compat.proofs.compare_modules.Kinds as compare-modules-kinds
use Rattle.compat.proofs.compare_modules.Reads as compare-modules
use Rattle.output.specs.Bytes.{room_for, written_count, left}
use Rattle.reasons.specs.Reasons.{Diffs, diffs_of, reason_lines, export_reason, export_row, export_reasons, need_reasons}
use Rattle.reasons.specs.Reasons.{reasons_of, reasons_tested}
use Rattle.reasons.specs.Reasons.{reasoned, Reasons}
use Rattle.reasons.proofs.breaking_reasons.Kinds as breaking-reasons-kinds
use Rattle.reasons.proofs.breaking_reasons.Reads as breaking-reasons

-- a comparison that is always compatible: where the lists break something, it is not said that they do not
module _ (κs : Lfts 6) (a : Dens κs compare-modules-kinds.ps)
    (s : AtExit (ended_of 6 compare-modules-kinds.ps compare-modules-kinds.r) κs) where
  abbrev compared_here : Said Lists
  compared_here =
      compared (given_of a.0) (given_of a.1.0) (capacity_in 8 (length a.1.1.0.now)) (capacity_in 9 (length a.1.1.1.0.now))

  abbrev answered : ℕ → ℕ → Bool → Answered
  answered m n fine = record { exports = m; capabilities = n; compatible = fine }

  pub always-compatible : (l : Lists) (m n : ℕ) → compared_here ≡ accepted l → (verdict_on l).compatible ≡ false
      → compare-modules.Post κs a (Ok (answered m n true)) s → ⊥
  unfolding follow
  always-compatible l m n e b p =
      let q : accepted (record { exports = m; capabilities = n; compatible = true }) ≡ accepted (verdict_on l) =
      p.answer-is ∙ ap (λ (x : Said Lists). follow x (λ k. accepted (verdict_on k))) e in
      let k : true ≡ false = ap (λ (v : Said Verdict). fine_of v) q ∙ b in
      let z : ◌≡◌ {A = ℕ} 0 1 = cc in
      omega arith
    where
      fine_of : Said Verdict → Bool
      fine_of (accepted v) = v.compatible
      fine_of (refused i j) = true

wrote : (w : List ℕ) (room : ℕ) {v : List ℕ} → room_for w room ≡ accepted v → v ≡ w
unfolding room_for
wrote w room {v} e = by (ltb room (length w)) e where
  by : (t : Bool) → pick t (refused 16 (spot (length w))) (accepted w) ≡ accepted v → v ≡ w
  by true e = absurd (never e)
  by false e = cc

-- a writer of reasons that writes nothing: the bytes it says it wrote are the lines of the tables, one for each removed export
told-reasons : (b c : Given) (d : Diffs) (before x : List ℕ) (n : ℕ) → Reasons b c d before (Ok n) x
    → (take n x ≡ reasons_of b c d) × (n ≡ length (reasons_of b c d))
unfolding reasoned
told-reasons b c d before x n h = by (reasoned b c d (length before)) refl h.answer h.output where
  by : (o : Said (List ℕ)) → reasoned b c d (length before) ≡ o → accepted n ≡ written_count o → x ≡ left before o
      → (take n x ≡ reasons_of b c d) × (n ≡ length (reasons_of b c d))
  by (accepted w) e q f =
      let g = followed (reasons_tested b c d) (λ u. room_for (reasons_of b c d) (length before)) e in
      let v : w ≡ reasons_of b c d = wrote (reasons_of b c d) (length before) g.then in
      let k : n ≡ length w = cc in
      (ap (take n) f ∙ take_at w (drop (length w) before) n (sym k) ∙ v, k ∙ ap length v)
  by (refused m i) e q f = absurd (never (sym q))

row_within : (line : ℕ → List ℕ) (i n : ℕ) → i < n → length (line i) ≤ length (reason_lines line n)
unfolding reason_lines
row_within line i zero h = absurd (omega arith)
row_within line i (suc n) h = by (ltb i n) refl (λ k. row_within line i n k)
  where
    l : length (reason_lines line n ++ line n) ≡ length (reason_lines line n) + length (line n)
    l = length-append (reason_lines line n) (line n)

    by : (t : Bool) → ltb i n ≡ t → (i < n → length (line i) ≤ length (reason_lines line n))
        → length (line i) ≤ length (reason_lines line n ++ line n)
    by true e r = omega (arith, l, r (ltb-true i n e))
    by false e r = let z : i ≡ n = omega (arith, ltb-false i n e) in rw z (omega (arith, l))

some-reason : (b c : Given) (d : Diffs) (i : ℕ) → i < d.export_count → cell_in 8 d.exports i 0 ≡ 0 → 0 < length (reasons_of b c d)
unfolding reasons_of export_row export_reason
some-reason b c d i h z =
    let line = export_row b.file b.exports d.exports in
    let e : length (line i) ≡ length (export_reason (export_key_at b.file b.exports (cell_in 8 d.exports i 1))) =
    rw (eq-eqb (cell_in 8 d.exports i 0) 0 z) in
    omega (
      arith,
      e,
      row_within line i d.export_count h,
      length-append (export_reasons b.file b.exports d.exports d.export_count)
          (need_reasons c.file c.imports d.needs d.need_count),
    )

module _ (κs : Lfts 6) (a : Dens κs breaking-reasons-kinds.ps)
    (s : AtExit (ended_of 6 breaking-reasons-kinds.ps breaking-reasons-kinds.r) κs) where
  abbrev old_module : Given
  old_module = given_of a.0

  abbrev new_module : Given
  new_module = given_of a.1.0

  abbrev lent_diffs : Diffs
  lent_diffs = diffs_of a.1.1.0

  pub writes-its-reasons : (n : ℕ) → breaking-reasons.Post κs a (Ok n) s
      → take n s.1.1.1.0.now ≡ reasons_of old_module new_module lent_diffs
  writes-its-reasons n p = (told-reasons old_module new_module lent_diffs a.1.1.1.0.now s.1.1.1.0.now n p).0

  pub writes-no-reason : (i : ℕ) → i < lent_diffs.export_count → cell_in 8 lent_diffs.exports i 0 ≡ 0
      → breaking-reasons.Post κs a (Ok 0) s → ⊥
  writes-no-reason i h z p =
      let e = (told-reasons old_module new_module lent_diffs a.1.1.1.0.now s.1.1.1.0.now 0 p).1 in
      omega (arith, e, some-reason old_module new_module lent_diffs i h z)
