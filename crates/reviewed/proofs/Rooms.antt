-- A text that is counted, then put where there is room for it. Assumes nothing.
use mathlib.Core.Path.{◌≡◌, refl, ap, ◌∙◌}
use mathlib.Core.Bool.{true, false}
use mathlib.Core.List.{List, ◌++◌}
use Prim.Native.Nat.{ℕ, ◌≤◌, ◌<◌}
use native.Mathlib.Omega.{arith}
use native.Mathlib.Nat.{zero-add}
use borrow.Author.Tests.{lt-ltb, le-ltb}
use lib.ListN.{length, take, drop}
use Rattle.output.specs.Bytes.{most, place_after, overlaid, Wrote}
use Rattle.output.specs.Writing.{Added}
use Rattle.output.specs.declared.bytes.Writer.{Writer}
use Rattle.output.proofs.Writing.{lent_back}
use Rattle.report.specs.Prints.{Prints, whole_in}
use Rattle.report.proofs.Printing.{printed}
use Rattle.reviewed.specs.Words.{no_room_w}
use Rattle.reviewed.specs.Review.{or_no_room}

module _ (w d : List ℕ) {a b : Writer} {x : List ℕ} (counted : Added a w b)
    (is : (a.out.now ≡ d) × (a.at ≡ 0) × (a.go ≡ false)) (link : x ≡ b.out.now) (few : length d ≤ most) where
  walked : Wrote d 0 false w b.at x
  walked = lent_back counted is link

  pub no-room-for : length x ≤ b.at → {r : ℕ} {y : List ℕ} → Prints (whole_in (length x) no_room_w) x r y
      → Prints (or_no_room (length d) w) d r y
  unfolding or_no_room place_after
  no-room-for h {r} {y} p =
      let e : x ≡ d = walked.kept refl in
      let l : length x ≡ length d = walked.long in
      let k = le-ltb (length w) (length d) (omega (arith, walked.next)) in
      rw k (rw e at p)

  pub room_for : b.at < length x → {e g : Writer} {y : List ℕ} → Added e w g → (e.out.now ≡ x) × (e.at ≡ 0) × (e.go ≡ true)
      → y ≡ g.out.now → Prints (or_no_room (length d) w) d g.at y
  unfolding or_no_room place_after
  room_for h {e} {g} {y} written i o =
      let v : Wrote x 0 true w g.at y = lent_back written i o in
      let q : x ≡ d = walked.kept refl in
      let l : length x ≡ length d = walked.long in
      let s : length w < length d = omega (arith, walked.next) in
      let a : y ≡ overlaid x 0 w = v.left refl (omega arith) (omega arith) in
      rw (lt-ltb (length w) (length d) s)
      (record {
        count-is = omega (arith, v.next);
        output-is = a ∙ ap (λ (k : ℕ). w ++ drop k x) (zero-add (length w)) ∙ ap (λ (l : List ℕ). w ++ drop (length w) l) q;
      })

-- what is printed of a buffer that has so much room
pub room-printed : (room : ℕ) (w d : List ℕ) {r : ℕ} {x : List ℕ} → Prints (or_no_room (length d) w) d r x → length d ≡ room
    → take r x ≡ or_no_room room w
room-printed room w d p e = printed (or_no_room (length d) w) d p ∙ ap (λ (n : ℕ). or_no_room n w) e
