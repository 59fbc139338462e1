-- A text at the start of a buffer: put there, or not for want of room; and what then is printed. Assumes nothing.
use mathlib.Core.Path.{◌≡◌, refl, sym, ap, ◌∙◌}
use mathlib.Core.Bool.{true}
use mathlib.Core.List.{List, ◌++◌}
use Prim.Native.Nat.{ℕ, ◌+◌, ◌≤◌, ◌<◌}
use native.Mathlib.Omega.{arith}
use native.Mathlib.Nat.{zero-add}
use lib.ListN.{length, take, drop, length-append}
use lib.Seq.{take_at}
use borrow.Author.Tests.{lt-ltb, le-ltb, le-leb}
use Rattle.output.specs.Bytes.{place_after, put_at, Puts}
use Rattle.report.specs.Prints.{Prints, whole_in}

-- ---- a short text put into the buffer, or none of it
module _ (w d : List ℕ) {t : List ℕ} (is : t ≡ w) where
  pub no_room : length d < length t → Prints (whole_in (length d) w) d 0 d
  unfolding whole_in
  no_room h = let e = lt-ltb (length d) (length w) (omega (arith, ap length is)) in rw e (record { count-is = refl; output-is = refl })

  pub all-put : length w ≤ 128 → length t ≤ length d → {r : ℕ} {x : List ℕ} → Puts d 0 true t r x → Prints (whole_in (length d) w) d r x
  unfolding whole_in place_after put_at
  all-put s h {r} {x} p =
      let l : length t ≡ length w = ap length is in
      let e = le-ltb (length d) (length w) (omega arith) in
      let g = le-leb (0 + length t) (length d) (omega arith) in
      let o : x ≡ t ++ drop (0 + length t) d = p.output-is ∙ rw g in
      rw e (record {
        count-is = omega (arith, p.next-is);
        output-is = o ∙ ap (λ (u : List ℕ). u ++ drop (0 + length u) d) is ∙ ap (λ (k : ℕ). w ++ drop k d) (zero-add (length w));
      })

-- ---- the buffer holds what was printed
pub within : (w d : List ℕ) {r : ℕ} {x : List ℕ} → Prints w d r x → r ≤ length x
within w d p = omega (arith, p.count-is, ap length p.output-is, length-append w (drop (length w) d))

pub printed : (w d : List ℕ) {r : ℕ} {x : List ℕ} → Prints w d r x → take r x ≡ w
printed w d {r} {x} p = rw p.output-is (take_at w (drop (length w) d) r (sym p.count-is))

-- one answer, and one buffer
pub printed-once : {w d : List ℕ} {r q : ℕ} {x y : List ℕ} → Prints w d r x → Prints w d q y → (r ≡ q) × (x ≡ y)
printed-once a b = (a.count-is ∙ sym b.count-is, a.output-is ∙ sym b.output-is)
