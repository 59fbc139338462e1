-- Bytes written one after the other. Assumes nothing.
use Rattle.std.specs.Prelude.{Result, Ok, Err}
use mathlib.Core.Path.{◌≡◌, refl, sym, ap, ◌∙◌}
use mathlib.Core.Bool.{Bool, true, false}
use mathlib.Core.List.{List, [], ◌++◌, append-nil, append_assoc}
use Prim.Native.Nat.{ℕ, ◌+◌, ◌≤◌, ◌<◌}
use native.Mathlib.Omega.{arith}
use native.Mathlib.Nat.{add-zero, zero-add}
use lib.ListN.{length, take, drop, length-append, length-drop, take-append-drop}
use lib.Seq.{length-take-le, take-length, take_at, drop_at, drop-drop, paste}
use lib.Dec.{ltb, leb}
use borrow.Author.Tests.{ltb-false, leb-true, le-leb, lt-leb, lt-ltb, le-ltb}
use Rattle.refusal.specs.Pick.{pick, both}
use Rattle.refusal.specs.declared.Refusal.{Refusal}
use Rattle.refusal.specs.Said.{refused, accepted, spot}
use Rattle.refusal.specs.declared.Refusal.TheVariants.{NoRoom}
use Rattle.output.specs.Bytes.{most, place_after, overlaid, put_at, Puts, Wrote, room_for, Formed, room_from, left_from, FormedFrom}

laid_none : (d : List ℕ) (at : ℕ) → overlaid d at [] ≡ d
laid_none d at = rw (append-nil (take at d), add-zero at) (take-append-drop at d)

-- w, then v after it
module _ (d : List ℕ) (at : ℕ) (w v : List ℕ) (h : at + length w ≤ length d) where
  head-long : length (take at d ++ w) ≡ at + length w
  head-long = length-append (take at d) w ∙ ap (λ (k : ℕ). k + length w) (length-take-le at d (omega arith))

  laid_then : overlaid (overlaid d at w) (at + length w) v ≡ overlaid d at (w ++ v)
  laid_then =
      let p = take at d ++ w in
      let q = drop (at + length w) d in
      let a : take (at + length w) (p ++ q) ≡ p = take_at p q (at + length w) head-long in
      let z : at + length w + length v ≡ at + length (w ++ v) = (let e = length-append w v in omega arith) in
      let b : drop (at + length w + length v) (p ++ q) ≡ drop (at + length (w ++ v)) d =
      sym (drop-drop (length v) (at + length w) (p ++ q)) ∙ ap (drop (length v)) (drop_at p q (at + length w) head-long)
      ∙ drop-drop (length v) (at + length w) d
      ∙ ap (λ (k : ℕ). drop k d) z in
      rw (a, b) (ap (λ (l : List ℕ). l ++ drop (at + length (w ++ v)) d) (append_assoc (take at d) w v))

  laid-long : length (overlaid d at w) ≡ length d
  laid-long = length-append (take at d ++ w) (drop (at + length w) d)
      ∙ (let a = head-long in let b = length-drop (at + length w) d in omega arith)

pub wrote_none : (d : List ℕ) (at : ℕ) (go : Bool) → at ≤ most → Wrote d at go [] at d
unfolding place_after
wrote_none d at go h = record { next = omega arith; long = refl; kept = λ e. refl; left = λ e l m. sym (laid_none d at) }

pub wrote_then : {d : List ℕ} {at : ℕ} {go : Bool} {w v : List ℕ} {r q : ℕ} {x y : List ℕ} → Wrote d at go w r x
    → Wrote x r go v q y → Wrote d at go (w ++ v) q y
unfolding place_after
wrote_then {d} {at} {go} {w} {v} {r} {q} {x} {y} f g =
    let l = length-append w v in
    record {
      next = omega (arith, f.next, g.next);
      long = g.long ∙ f.long;
      kept = λ e. g.kept e ∙ f.kept e;
      left = λ e h m.
          let k : at + length w ≤ length d = omega arith in
          let n : at + length w ≤ most = omega arith in
          let i : r ≡ at + length w = omega (arith, f.next) in
          let a : x ≡ overlaid d at w = f.left e k n in
          let b : y ≡ overlaid x r v = g.left e (omega (arith, f.long)) (omega arith) in
          b ∙ ap (λ (l : List ℕ). overlaid l r v) a ∙ ap (λ (m : ℕ). overlaid (overlaid d at w) m v) i ∙ laid_then d at w v k;
    }

-- ---- one call
module _ (d : List ℕ) (at : ℕ) (go : Bool) (w : List ℕ) where
  put-stays : (length d < at + length w) → d ≡ put_at d at go w
  unfolding put_at
  put-stays h = by go where
    by : (g : Bool) → d ≡ pick (both g (leb (at + length w) (length d))) (overlaid d at w) d
    by true = rw (lt-leb (at + length w) (length d) h)
    by false = refl

  -- more bytes than can be counted, and more than the buffer has
  pub puts-over : length d ≤ most → most < at + length w → Puts d at go w most d
  unfolding place_after
  puts-over h k = record { next-is = omega arith; output-is = put-stays (omega arith) }

  pub puts-no : {r : ℕ} → go ≡ false → r < most + 1 → r ≡ at + length w → Puts d at go w r d
  unfolding place_after put_at
  puts-no e m n = record { next-is = omega arith; output-is = rw e }

  pub puts-full : {r : ℕ} → length d < r → r < most + 1 → r ≡ at + length w → Puts d at go w r d
  unfolding place_after
  puts-full k m n = record { next-is = omega arith; output-is = put-stays (omega arith) }

  pub puts-all : {r : ℕ} {x : List ℕ} → go ≡ true → r ≤ length d → r < most + 1 → r ≡ at + length w → x ≡ paste d at w (length w)
      → Puts d at go w r x
  unfolding place_after put_at
  puts-all e k m n p =
      let t = le-leb (at + length w) (length d) (omega arith) in
      record { next-is = omega arith; output-is = p ∙ rw (take-length w) (rw (e, t)) }

  pub puts-long : {r : ℕ} {x : List ℕ} → Puts d at go w r x → length x ≡ length d
  unfolding put_at
  puts-long p = ap length p.output-is ∙ by go (leb (at + length w) (length d)) refl where
    by : (g t : Bool) → leb (at + length w) (length d) ≡ t → length (pick (both g t) (overlaid d at w) d) ≡ length d
    by true true e = laid-long d at w [] (leb-true (at + length w) (length d) e)
    by true false e = refl
    by false t e = refl

  -- as the first of a row of calls
  pub wrote-put : {r : ℕ} {x : List ℕ} → Puts d at go w r x → Wrote d at go w r x
  unfolding put_at
  wrote-put p =
      record {
        next = p.next-is;
        long = puts-long p;
        kept = λ e. p.output-is ∙ rw e;
        left = λ e h m. p.output-is ∙ rw (e, le-leb (at + length w) (length d) h);
      }

-- ---- the writer's answers
module _ (w d : List ℕ) (at : ℕ) {m : ℕ} {x : List ℕ} (counted : Wrote d at false w m x) (few : at + length w ≤ most) where
  pub form-full : length d < m → FormedFrom at w d (Err (NoRoom m)) x
  unfolding room_from place_after
  form-full h =
      let z : m ≡ at + length w = omega (arith, counted.next) in
      let t = lt-ltb (length d) (at + length w) (omega arith) in
      record { answer = rw (t, z); output = counted.kept refl ∙ rw t }

  pub form-done : m ≤ length d → {j : ℕ} {y : List ℕ} → Wrote x at true w j y → FormedFrom at w d (Ok j) y
  unfolding room_from place_after
  form-done h {j} {y} v =
      let z : j ≡ at + length w = omega (arith, v.next) in
      let t = le-ltb (length d) (at + length w) (omega (arith, counted.next)) in
      let b : x ≡ d = counted.kept refl in
      let a : y ≡ overlaid x at w = v.left refl (omega (arith, counted.long, counted.next)) (omega arith) in
      record { answer = rw (t, z); output = a ∙ rw (b, t) }

-- the buffer keeps its length
pub formed-long : (w d : List ℕ) (at : ℕ) {r : Result ℕ Refusal} {x : List ℕ} → FormedFrom at w d r x → length x ≡ length d
unfolding room_from
formed-long w d at f = ap length f.output ∙ by (ltb (length d) (at + length w)) refl
  where
    by : (t : Bool) → ltb (length d) (at + length w) ≡ t
        → length (left_from at d (pick t (refused 16 (spot (at + length w))) (accepted w))) ≡ length d
    by true q = refl
    by false q = laid-long d at w [] (ltb-false (length d) (at + length w) q)

-- from the start of the buffer on
pub formed-first : (w d : List ℕ) {r : Result ℕ Refusal} {x : List ℕ} → FormedFrom 0 w d r x → Formed w d r x
unfolding room_from room_for
formed-first w d {r} {x} f = by (ltb (length d) (length w)) refl
  where
    by : (t : Bool) → ltb (length d) (length w) ≡ t → Formed w d r x
    by true q = record { answer = f.answer ∙ rw (zero-add (length w), q); output = f.output ∙ rw (zero-add (length w), q) }
    by false q =
        record {
          answer = f.answer ∙ rw (zero-add (length w), q) (ap accepted (zero-add (length w)));
          output = f.output ∙ rw (zero-add (length w), q) (ap (λ (k : ℕ). w ++ drop k d) (zero-add (length w)));
        }
