-- What tables that passed say, and the answer of the whole. Assumes nothing.
use Rattle.std.specs.Prelude.{Result, Ok, Err}
use mathlib.Core.Path.{◌≡◌, refl, sym, ◌∙◌, ap}
use mathlib.Core.Bool.{Bool, true, false}
use mathlib.Core.List.{List}
use Prim.Native.Nat.{ℕ, ◌+◌, ◌≤◌, ◌<◌}
use native.Mathlib.Omega.{arith}
use borrow.Author.Tests.{ltb-true, eq-eqb}
use lib.Dec.{ltb}
use lib.ListN.{length}
use Rattle.refusal.specs.Pick.{pick}
use Rattle.refusal.specs.Sizes.{file_limit}
use Rattle.refusal.specs.Said.{Said, accepted, refused, refused_by, said_by, follow}
use Rattle.refusal.specs.declared.Refusal.{Refusal}
use Rattle.refusal.proofs.Following.{followed}
use Rattle.table.specs.Shape.{width, limit, capacity_in, cell_in}
use Rattle.table.proofs.Cells.{capacity-limit}
use Rattle.table.specs.Testing.{bad}
use Rattle.differences.specs.Compared.{Given}
use Rattle.differences.proofs.Tests.{tested-all, never-false, exports-good}
use Rattle.differences.proofs.Both.{both-good, both-short}
use Rattle.output.specs.Bytes.{most, room_for, WriterTells, room_from, WriterTellsFrom, FormedFrom}
use Rattle.output.proofs.ByteLaws.{formed-first, formed-long}
use Rattle.reasons.specs.Reasons.{Diffs, export_diff_fits, export_diffs_tested, need_diff_fits, need_diffs_tested, diffs_tested}
use Rattle.reasons.specs.Reasons.{reasons_tested, reasoned, reasons_of, KindsFit, Reasons, reasoned_from, ReasonsFrom}
use Rattle.reasons.proofs.Lines.{reasons-few}

-- a removed row that passed points into the baseline's table
row_in : (nb nc : ℕ) (xd : List ℕ) (i : ℕ) → bad (export_diff_fits nb nc xd) i ≡ false → cell_in 8 xd i 0 ≡ 0 → cell_in 8 xd i 1 < nb
unfolding export_diff_fits
row_in nb nc xd i e z =
    by (ltb (cell_in 8 xd i 1) nb) refl
    (ap (λ (t : Bool). pick (ltb (cell_in 8 xd i 1) (pick t nb nc)) false true) (sym (eq-eqb (cell_in 8 xd i 0) 0 z)) ∙ e)
  where
    by : (t : Bool) → ltb (cell_in 8 xd i 1) nb ≡ t → pick t false true ≡ false → cell_in 8 xd i 1 < nb
    by true q r = ltb-true (cell_in 8 xd i 1) nb q
    by false q r = absurd (never-false r)

pub record Fine (b c : Given) (d : Diffs) : Type 0 where
  pub kinds : KindsFit b.exports d.exports d.export_count
  pub files : (length b.file ≤ file_limit) × (length c.file ≤ file_limit)
  pub counts : (d.export_count ≤ limit 8) × (d.need_count ≤ limit 9)

module _ (b c : Given) (d : Diffs) where
  fine_of : reasons_tested b c d ≡ accepted tt → Fine b c d
  unfolding reasons_tested diffs_tested export_diffs_tested need_diffs_tested
  fine_of e =
      let f = followed _ _ e in
      let g = followed _ _ f.then in
      let x = tested-all (capacity_in 8 (length d.exports)) d.export_count
      (bad (export_diff_fits b.export_count c.export_count d.exports)) g.first in
      let n = tested-all (capacity_in 9 (length d.needs)) d.need_count
      (bad (need_diff_fits b.import_count c.import_count d.needs)) g.then in
      let k = exports-good (length b.file) b.exports b.export_count (both-good b c f.first).0.exports-good in
      record {
        kinds = λ i h z. k.1 (cell_in 8 d.exports i 1) (row_in b.export_count c.export_count d.exports i (x.1 i h) z);
        files = both-short b c f.first;
        counts = (
          omega (arith, x.0, capacity-limit (length d.exports) (width 8) (limit 8)),
          omega (arith, n.0, capacity-limit (length d.needs) (width 9) (limit 9)),
        );
      }

  -- by what the test said
  module _ {a : Result (Unit {0}) Refusal} (tested : said_by a ≡ reasons_tested b c d) where
    pub fine : a ≡ (Ok tt) → Fine b c d
    fine e = fine_of (sym tested ∙ ap said_by e)

    pub reasons-refused : (at : ℕ) (before : List ℕ) {w : Refusal} → a ≡ Err w → ReasonsFrom at b c d before (Err w) before
    unfolding reasoned_from follow
    reasons-refused at before {w} e =
        let z : reasons_tested b c d ≡ refused_by w = sym tested ∙ ap said_by e in
        record { answer = rw z; output = rw z }

    pub reasons-formed : (at : ℕ) (before : List ℕ) → a ≡ (Ok tt) → {r : Result ℕ Refusal} {after : List ℕ}
        → FormedFrom at (reasons_of b c d) before r after → ReasonsFrom at b c d before r after
    unfolding reasoned_from follow
    reasons-formed at before e f =
        let z : reasons_tested b c d ≡ accepted tt = sym tested ∙ ap said_by e in
        rw z f

  -- from the start of the buffer on
  pub reasons-first : (before : List ℕ) {r : Result ℕ Refusal} {after : List ℕ} → ReasonsFrom 0 b c d before r after
      → Reasons b c d before r after
  unfolding reasoned reasoned_from follow
  reasons-first before {r} {after} f = by (reasons_tested b c d) f
    where
      by : (t : Said (Unit {0})) → WriterTellsFrom 0 (follow t (λ u. room_from 0 (reasons_of b c d) (length before))) before r after
          → WriterTells (follow t (λ u. room_for (reasons_of b c d) (length before))) before r after
      by (accepted u) g = formed-first (reasons_of b c d) before g
      by (refused n p) g = record { answer = g.answer; output = g.output }

  -- the buffer keeps its length
  pub reasons-long : (at : ℕ) (before : List ℕ) {r : Result ℕ Refusal} {after : List ℕ} → ReasonsFrom at b c d before r after
      → length after ≡ length before
  unfolding reasoned_from follow
  reasons-long at before {r} {after} f = by (reasons_tested b c d) f
    where
      by : (t : Said (Unit {0})) → WriterTellsFrom at (follow t (λ u. room_from at (reasons_of b c d) (length before))) before r after
          → length after ≡ length before
      by (accepted u) g = formed-long (reasons_of b c d) before at g
      by (refused n p) g = ap length g.output

  -- what was tested can be counted, after four thousand million other bytes as well
  pub reasons-short : reasons_tested b c d ≡ accepted tt → {at : ℕ} → at ≤ 4294967295 → at + length (reasons_of b c d) ≤ most
  reasons-short e h = let z = fine_of e in reasons-few b c d z.files.0 z.files.1 z.counts.0 z.counts.1 h
