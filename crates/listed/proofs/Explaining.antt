-- The reasons that are put after the rows of the differences, and what is told of both. Assumes nothing.
use Rattle.std.specs.Prelude.{Result, Ok, Err}
use Prim.Native.Nat.{ℕ, ◌+◌, ◌-◌, ◌*◌, ◌≤◌}
use native.Mathlib.Omega.{arith}
use mathlib.Core.Path.{◌≡◌, refl, sym, ap, ◌∙◌}
use mathlib.Core.Bool.{Bool, true, false}
use mathlib.Core.List.{List, ◌++◌, append_assoc}
use lib.Dec.{ltb}
use lib.ListN.{length, take, drop, length-append}
use lib.Seq.{length-take-le, drop_at}
use borrow.Author.Tests.{ltb-false, le-ltb}
use Rattle.refusal.specs.Pick.{pick}
use Rattle.refusal.specs.Said.{Said, accepted, refused, number_of, where_of, refused_by, follow, said_by, spot, Place}
use Rattle.refusal.specs.declared.Refusal.{Refusal}
use Rattle.refusal.proofs.Following.{never}
use Rattle.table.specs.Shape.{width}
use Rattle.output.proofs.CellLaws.{length-bytes}
use Rattle.differences.specs.Compared.{Given}
use Rattle.output.specs.Bytes.{room_for, Formed, overlaid, room_from, written_count_from}
use Rattle.reasons.specs.Reasons.{Diffs, diffs, reasons_tested, reasons_of, reasoned_from, ReasonsFrom}
use Rattle.reasons.proofs.Fine.{reasons-long}
use Rattle.listed.specs.declared.comparison.ComparisonTold.{ComparisonTold}
use Rattle.listed.specs.Comparisons.{no_comparison, comparison_by, verdict, taken_bytes, explained_bytes, Explains, ComparisonCounted}

-- the bytes of the counted rows
pub rows_long : {m n : ℕ} {xd cd : List ℕ} (exports needs : ℕ) → ComparisonCounted m n xd cd → exports ≡ m * width 8 → needs ≡ n * width 9
    → (exports + needs) * 8 ≡ length (taken_bytes (diffs xd m cd n))
rows_long {m} {n} {xd} {cd} exports needs k e f =
    let a = length-take-le (m * width 8) xd k.exports-in in
    let b = length-take-le (n * width 9) cd k.needs-in in
    omega (
      arith,
      length-bytes (take (m * width 8) xd ++ take (n * width 9) cd),
      length-append (take (m * width 8) xd) (take (n * width 9) cd),
    )

-- v at the start of a buffer that holds w after as many bytes: both, and what stood past them
both-laid : (d v w : List ℕ) → length v + length w ≤ length d
    → v ++ drop (length v) (overlaid d (length v) w) ≡ (v ++ w) ++ drop (length (v ++ w)) d
both-laid d v w h =
    let k = length v in
    let q = drop (k + length w) d in
    let past : drop k (take k d ++ w ++ q) ≡ w ++ q =
    ap (drop k) (append_assoc (take k d) w q) ∙ drop_at (take k d) (w ++ q) k (length-take-le k d (omega arith)) in
    ap (λ (l : List ℕ). v ++ l) past
    ∙ sym (append_assoc v w q)
    ∙ ap (λ (n : ℕ). (v ++ w) ++ drop n d) (sym (length-append v w))

-- w after the first bytes, which are v's: the room is what both need
module _ (v w : List ℕ) (room : ℕ) {first : ℕ} (is : first ≡ length v) where
  long : length (v ++ w) ≡ first + length w
  long = length-append v w ∙ ap (λ (k : ℕ). k + length w) (sym is)

  none-full : (t : Said (Unit {0})) {n : ℕ} {p : Place} → follow t (λ u. room_from first w room) ≡ refused n p
      → follow t (λ u. room_for (v ++ w) room) ≡ refused n p
  unfolding follow room_from room_for
  none-full (accepted u) {n} {p} e = rw long (by (ltb room (first + length w)) e)
    where
      by : (t : Bool) → pick t (refused 16 (spot (first + length w))) (accepted w) ≡ refused n p
          → pick t (refused 16 (spot (first + length w))) (accepted (v ++ w)) ≡ refused n p
      by true q = cc
      by false q = absurd (never (sym q))
  none-full (refused n p) e = cc

  pub record Fits (t : Said (Unit {0})) (x : List ℕ) : Type 0 where
    pub same : x ≡ w
    pub all : follow t (λ u. room_for (v ++ w) room) ≡ accepted (v ++ w)
    pub enough : first + length w ≤ room

  both-fit : (t : Said (Unit {0})) {x : List ℕ} → follow t (λ u. room_from first w room) ≡ accepted x → Fits t x
  unfolding follow room_from room_for
  both-fit (accepted u) {x} e = by (ltb room (first + length w)) refl e
    where
      by : (t : Bool) → ltb room (first + length w) ≡ t → pick t (refused 16 (spot (first + length w))) (accepted w) ≡ accepted x
          → Fits (accepted u) x
      by true h q = absurd (never q)
      by false h q = record { same = cc; all = rw (long, h); enough = ltb-false room (first + length w) h }
  both-fit (refused n p) e = absurd (never e)

told_none : (first : ℕ) (o : Said (List ℕ)) {n : ℕ} {p : Place} → written_count_from first o ≡ refused n p → o ≡ refused n p
told_none first (accepted w) e = absurd (never (sym e))
told_none first (refused n p) e = cc

pub record Some (first : ℕ) (o : Said (List ℕ)) (n : ℕ) : Type 0 where
  pub text : List ℕ
  pub is : o ≡ accepted text
  pub end : n ≡ first + length text

told-some : (first : ℕ) (o : Said (List ℕ)) {n : ℕ} → written_count_from first o ≡ accepted n → Some first o n
told-some first (accepted w) e = record { text = w; is = refl; end = cc }
told-some first (refused n p) e = absurd (never e)

module _ (b c : Given) (d : Diffs) {first : ℕ} (rows : first ≡ length (taken_bytes d)) {before after : List ℕ} {s : Result ℕ Refusal}
    (f : ReasonsFrom first b c d before s after) where
  pub explains-none : (fine : Bool) {why : Refusal} {r : ComparisonTold} → s ≡ Err why
      → r ≡ no_comparison (number_of why) (where_of why)
      → Explains b c d fine before r after
  unfolding reasoned_from explained_bytes
  explains-none fine {why} e q =
      let o : reasoned_from first b c d (length before) ≡ refused_by why = told_none first _ (sym f.answer ∙ ap said_by e) in
      let x : explained_bytes b c d (length before) ≡ refused_by why =
      none-full (taken_bytes d) (reasons_of b c d) (length before) rows (reasons_tested b c d) o in
      record { answer-is = rw x q; output-is = rw x (f.output ∙ rw o) }

  module _ {n : ℕ} (e : s ≡ Ok n) where
    some : Some first (reasoned_from first b c d (length before)) n
    some = told-some first _ (sym f.answer ∙ ap said_by e)

    fit : Fits (taken_bytes d) (reasons_of b c d) (length before) rows (reasons_tested b c d) some.text
    unfolding reasoned_from
    fit = both-fit (taken_bytes d) (reasons_of b c d) (length before) rows (reasons_tested b c d) some.is

    pub rows_before : first ≤ n
    rows_before = omega (arith, some.end)

    pub explains : (fine : Bool) {u : Result ℕ Refusal} {y : List ℕ} {r : ComparisonTold} → Formed (taken_bytes d) after u y
        → r ≡ comparison_by (verdict d.export_count d.need_count fine) (n - first) (accepted n) → Explains b c d fine before r y
    unfolding explained_bytes room_for
    explains fine {u} {y} {r} g q =
        let w = reasons_of b c d in
        let v = taken_bytes d in
        let x : explained_bytes b c d (length before) ≡ accepted (v ++ w) = fit.all in
        let is : n ≡ first + length w = some.end ∙ ap (λ (l : List ℕ). first + length l) fit.same in
        let held : after ≡ overlaid before (length v) w =
        f.output ∙ rw some.is (ap (λ (l : List ℕ). overlaid before first l) fit.same) ∙ ap (λ (k : ℕ). overlaid before k w) rows in
        let kept : length after ≡ length before = reasons-long b c d first before f in
        let room : ltb (length after) (length v) ≡ false = le-ltb (length after) (length v) (omega (arith, fit.enough)) in
        let told = comparison_by (verdict d.export_count d.need_count fine) in
        let less : n - first ≡ length w = omega arith in
        let all : n ≡ length (v ++ w) = is ∙ sym (long v w (length before) rows) in
        record {
          answer-is = rw x (q ∙ ap (λ (m : ℕ). told m (accepted n)) less ∙ ap (λ (m : ℕ). told (length w) (accepted m)) all);
          output-is = rw x (
              g.output
              ∙ rw room (ap (λ (l : List ℕ). v ++ drop (length v) l) held ∙ both-laid before v w (omega (arith, fit.enough)))
              );
        }
