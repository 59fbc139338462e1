-- Laws of the second walk: a number of one byte, two or four, a run of entries, a frame, a custom section. Assumes nothing.
use Prim.Native.Nat.{ℕ, suc, ◌+◌, ◌-◌, ◌*◌, ◌≤◌, ◌<◌}
use native.Mathlib.Omega.{arith}
use mathlib.Core.Path.{◌≡◌, refl, sym, ◌∙◌, ap}
use mathlib.Core.Bool.{true, false}
use mathlib.Core.Logic.{◌⊎◌, inl, inr}
use mathlib.Core.List.{List, ◌∷◌}
use lib.ListN.{length, get_or, drop}
use lib.Seq.{drop-cons}
use borrow.Author.Tests.{lt-ltb, le-ltb, le-leb, ne_eqb}
use Rattle.std.specs.Result.{IsErrAnd}
use Rattle.std.specs.Prelude.{Result, Ok, Err}
use Rattle.refusal.specs.Said.{Said, accepted, refused, refused_by, number_of, where_of, Got, got, onward}
use Rattle.refusal.specs.declared.Refusal.{Refusal}
use Rattle.refusal.specs.declared.Part.{Part}
use Rattle.text.specs.Find.{same}
use Rattle.text.proofs.Laws.{left-next}
use Rattle.refusal.proofs.Following.{read-on}
use Rattle.table.specs.Told.{Passed}
use Rattle.table.specs.Walking.{walk_from}
use Rattle.table.proofs.Walking.{from-stop}
use Rattle.leb.specs.Groups.{value, u_n, grown}
use Rattle.leb.specs.Reads.{part_bytes, told_at, narrowed, uleb_at, u32_at, byte_at, counted_at}
use Rattle.leb.specs.Answers.{ReadAnswer, read, answer_from, finding_of}
use Rattle.leb.specs.declared.Cursor.{Cursor}
use Rattle.leb.proofs.Answering.{heard-from}
use Rattle.leb.proofs.Bounds.{byte-in, counted-in}
use Rattle.wasm.specs.Answers.{said_got}
use Rattle.wasm.specs.Custom.{name_word}
use Rattle.strict.specs.declared.again.Marks.{Marks}
use Rattle.strict.specs.declared.again.Frame.{Frame}
use Rattle.strict.specs.Again.{frame_at, with_number, run_from, framed_marks, subsection_marks, custom_marks, list_marks, contents_marks}

-- ---- what a read of leb found, from its promise and from what its answer turned out to be
pub found : {X : Type 0} (at : ℕ) {x : Said (Got X)} {a : ReadAnswer X} → a ≡ answer_from at x → finding_of a ≡ x
found at {x} e = ap finding_of e ∙ heard-from at x

-- ---- what `?` makes of a read: a refusal is that of the whole, and after a value the rest decides
module _ {X Y : Type 0} {x : Said (Got X)} (f : X → ℕ → Said (Got Y)) where
  pub falls : (w : Refusal) (r : Result (Y × Cursor) Refusal) → refused_by w ≡ x → IsErrAnd r (λ e. e ≡ w) → said_got r ≡ onward x f
  unfolding onward
  falls w (Ok v) q h = absurd h
  falls w (Err e) q h = rw (sym q, h)

  pub comes : {v : X} {d : ℕ} {y : Said (Got Y)} → accepted (got v d) ≡ x → y ≡ f v d → y ≡ onward x f
  unfolding onward
  comes q h = rw (sym q, h)

-- a refusal that is the whole answer
pub same-err : {X : Type 0} {x : Said (Got X)} (w : Refusal) (r : Result (X × Cursor) Refusal) → refused_by w ≡ x → IsErrAnd r (λ e. e ≡ w)
    → said_got r ≡ x
same-err w (Ok v) q h = absurd h
same-err w (Err e) q h = rw h q

pub err-passed : {X : Type 0} (n at : ℕ) (P : Refusal → Type 0) (r : Result (X × Cursor) Refusal) → IsErrAnd r P → Passed n at (said_got r)
unfolding Passed
err-passed n at P (Ok v) h = absurd h
err-passed n at P (Err e) h = tt

-- ---- a number of one byte
pub one_byte : (s : List ℕ) (at : ℕ) → at < length s → get_or s at 0 < 128 → accepted (got (get_or s at 0) (at + 1)) ≡ u32_at s at
unfolding u32_at uleb_at told_at u_n onward narrowed
one_byte s at h b =
    rw (
      drop-cons s at 0 h,
      lt-ltb (get_or s at 0) 128 b,
      lt-ltb (get_or s at 0) 18446744073709551616 (omega arith),
      le-leb (get_or s at 0) 4294967295 (omega arith),
    )

-- and of two
two-groups : (x y : ℕ) (l : List ℕ) → 128 ≤ x → y < 128 → u_n 64 (x ∷ y ∷ l) ≡ value (128 * y + (x - 128)) 2
unfolding u_n grown
two-groups x y l a c = rw (le-ltb x 128 a, lt-ltb y 128 c, lt-ltb y 144115188075855872 (omega arith))

two-left : (s : List ℕ) (at : ℕ) → at + 1 < length s → drop at s ≡ get_or s at 0 ∷ get_or s (at + 1) 0 ∷ drop (at + 1 + 1) s
two-left s at h = left-next s at (omega arith) ∙ ap (λ (l : List ℕ). get_or s at 0 ∷ l) (left-next s (at + 1) h)

pub two_bytes : (s : List ℕ) (at : ℕ) {v : ℕ} → at + 1 < length s → 128 ≤ get_or s at 0 → get_or s at 0 < 256 → get_or s (at + 1) 0 < 128
    → v ≡ get_or s at 0 + 128 * get_or s (at + 1) 0 - 128 → accepted (got v (at + 2)) ≡ u32_at s at
unfolding u32_at uleb_at told_at onward narrowed
two_bytes s at {v} h a b c e =
    let sum : v ≡ 128 * get_or s (at + 1) 0 + (get_or s at 0 - 128) = omega (arith, e) in
    rw (
      sum,
      two-left s at h,
      two-groups (get_or s at 0) (get_or s (at + 1) 0) (drop (at + 1 + 1) s) a c,
      le-leb (128 * get_or s (at + 1) 0 + (get_or s at 0 - 128)) 4294967295 (omega arith),
    )

-- and of four
four-groups : (x y z w : ℕ) (l : List ℕ) → 128 ≤ x → 128 ≤ y → 128 ≤ z → w < 128
    → u_n 64 (x ∷ y ∷ z ∷ w ∷ l) ≡ value (128 * (128 * (128 * w + (z - 128)) + (y - 128)) + (x - 128)) 4
unfolding u_n grown
four-groups x y z w l a b c d =
    rw (le-ltb x 128 a, le-ltb y 128 b, le-ltb z 128 c, lt-ltb w 128 d, lt-ltb w 8796093022208 (omega arith))

one_left : (s : List ℕ) (at next : ℕ) → at < length s → next ≡ at + 1 → drop at s ≡ get_or s at 0 ∷ drop next s
one_left s at next h e = rw e (left-next s at h)

four-left : (s : List ℕ) (at : ℕ) → at + 3 < length s
    → drop at s ≡ get_or s at 0 ∷ get_or s (at + 1) 0 ∷ get_or s (at + 2) 0 ∷ get_or s (at + 3) 0 ∷ drop (at + 4) s
four-left s at h =
    one_left s at (at + 1) (omega arith) refl
    ∙ ap (λ (l : List ℕ). get_or s at 0 ∷ l) (one_left s (at + 1) (at + 2) (omega arith) (omega arith)
    ∙ ap (λ (l : List ℕ). get_or s (at + 1) 0 ∷ l) (one_left s (at + 2) (at + 3) (omega arith) (omega arith)
    ∙ ap (λ (l : List ℕ). get_or s (at + 2) 0 ∷ l) (one_left s (at + 3) (at + 4) h (omega arith))))

pub four_bytes : (s : List ℕ) (at x y z w : ℕ) {v : ℕ} → at + 3 < length s → x ≡ get_or s at 0 → y ≡ get_or s (at + 1) 0
    → z ≡ get_or s (at + 2) 0 → w ≡ get_or s (at + 3) 0 → 128 ≤ x → 128 ≤ y → 128 ≤ z → w < 128 → x < 256 → y < 256 → z < 256
    → v ≡ x + 128 * y + 16384 * z + 2097152 * w - 2113664 → accepted (got v (at + 4)) ≡ u32_at s at
unfolding u32_at uleb_at told_at onward narrowed
four_bytes s at x y z w {v} h ex ey ez ew a b c d xs ys zs e =
    let sum : v ≡ 128 * (128 * (128 * w + (z - 128)) + (y - 128)) + (x - 128) = omega (arith, e) in
    rw (
      sum,
      four-left s at h,
      sym ex,
      sym ey,
      sym ez,
      sym ew,
      four-groups x y z w (drop (at + 4) s) a b c d,
      le-leb (128 * (128 * (128 * w + (z - 128)) + (y - 128)) + (x - 128)) 4294967295 (omega arith),
    )

pub run_start : (f : ℕ → Marks → Said (Got Marks)) (n at : ℕ) (m : Marks) → run_from f (n - 0) at m ≡ run_from f n at m
run_start f n at m = let e : n - 0 ≡ n = omega arith in ap (λ (k : ℕ). run_from f k at m) e

-- ---- entries: n of them, of which i were read
module _ (read : ℕ → Marks → Said (Got Marks)) (n i at : ℕ) (m : Marks) where
  left : i < n → n - i ≡ suc (n - (i + 1))
  left h = omega arith

  pub run_end : n ≤ i → accepted (got m at) ≡ run_from read (n - i) at m
  unfolding run_from
  run_end h = let e : n - i ≡ 0 = omega arith in rw e

  pub run-err : (w : Refusal) (r : Result (Marks × Cursor) Refusal) → i < n → refused_by w ≡ read at m → IsErrAnd r (λ e. e ≡ w)
      → said_got r ≡ run_from read (n - i) at m
  unfolding run_from
  run-err w r h e q = rw (left h) (falls (λ k d. run_from read (n - (i + 1)) d k) w r e q)

  pub run_on : {k : Marks} {d : ℕ} → i < n → accepted (got k d) ≡ read at m → run_from read (n - (i + 1)) d k ≡ run_from read (n - i) at m
  unfolding run_from
  run_on h e = rw (left h) (comes (λ k d. run_from read (n - (i + 1)) d k) e refl)

-- ---- things that follow one another, of which one is refused
pub walk-err : {X : Type 0} (step : ℕ → X → Said (Got X)) (b : List ℕ) (at : ℕ) (t : X) (w : Refusal) (r : Result (X × Cursor) Refusal)
    → at < length b → refused_by w ≡ step at t → IsErrAnd r (λ e. e ≡ w) → said_got r ≡ walk_from step b at t
walk-err step b at t w r h e q = same-err w r (sym (from-stop step b at t (number_of w) (where_of w) h (sym e))) q

-- ---- a frame that was read: where it ends, and what is inside; q is its bytes as the code cut them out
module _ (s : List ℕ) (at : ℕ) (m : Marks) where
  abbrev framed : ℕ → ℕ → Part → ℕ → Said (Got Frame)
  framed id a p next = accepted (got (record { id = id; bytes = p; marks = with_number m (p.from - a) }) next)

  pub record Framed (f : Frame) (next : ℕ) : Type 0 where
    pub past : at < next
    pub end : f.bytes.from + f.bytes.len ≡ next
    pub in-s : next ≤ length s

  framed-in : (id a next : ℕ) (p : Part) (f : Frame) (d : ℕ) → at < a → a < p.from → p.from + p.len ≡ next → next ≤ length s
      → framed id a p next ≡ accepted (got f d) → Framed f d
  framed-in id a next p f d h k e i q =
      let n : next ≡ d = cc in
      let b : p ≡ f.bytes = cc in
      record { past = omega arith; end = rw (sym b, sym n) e; in-s = omega arith }

  pub frame-in : {f : Frame} {next : ℕ} → accepted (got f next) ≡ frame_at s at m → Framed f next
  unfolding frame_at
  frame-in {f} {next} e =
      let one = read-on (byte_at s at) (λ id a. onward (counted_at s a) (framed id a)) (sym e) in
      let two = read-on (counted_at s one.next) (framed one.what one.next) one.then in
      let u = byte-in s at one.what one.next one.first in
      let w = counted-in s one.next two.what two.next two.first in
      framed-in one.what one.next two.next two.what f next u.past w.past w.end w.in-s two.then

  module _ (inside : ℕ → List ℕ → Marks → Said (Got Marks)) where
    abbrev rest : Frame → ℕ → Said (Got Marks)
    rest f next = onward (inside f.id (part_bytes s f.bytes) f.marks) (λ k e. accepted (got k next))

    framed-as : onward (frame_at s at m) rest ≡ framed_marks inside s at m
    unfolding frame_at framed_marks onward
    framed-as = by (byte_at s at)
      where
        deep : (id a : ℕ) (x : Said (Got Part)) → onward (onward x (framed id a)) rest
            ≡ onward x (λ p next. onward (inside id (part_bytes s p) (with_number m (p.from - a))) (λ k e. accepted (got k next)))
        deep id a (accepted (got p next)) = refl
        deep id a (refused n p) = refl

        by : (x : Said (Got ℕ)) → onward (onward x (λ id a. onward (counted_at s a) (framed id a))) rest
            ≡ onward x (λ id a. onward (counted_at s a) (λ p next.
            onward (inside id (part_bytes s p) (with_number m (p.from - a))) (λ k e. accepted (got k next))))
        by (accepted (got id a)) = deep id a (counted_at s a)
        by (refused n p) = refl

    pub framed-none : (w : Refusal) (r : Result (Marks × Cursor) Refusal) → refused_by w ≡ frame_at s at m → IsErrAnd r (λ e. e ≡ w)
        → said_got r ≡ framed_marks inside s at m
    framed-none w r e h = falls rest w r e h ∙ framed-as

    module _ {f : Frame} {next : ℕ} (first : accepted (got f next) ≡ frame_at s at m) (q : List ℕ) (is : q ≡ part_bytes s f.bytes) where
      cut-out : inside f.id q f.marks ≡ inside f.id (part_bytes s f.bytes) f.marks
      cut-out = ap (λ (l : List ℕ). inside f.id l f.marks) is

      pub framed-err : (w : Refusal) (r : Result (Marks × Cursor) Refusal) → refused_by w ≡ inside f.id q f.marks → IsErrAnd r (λ e. e ≡ w)
          → said_got r ≡ framed_marks inside s at m
      framed-err w r e h = comes rest first (falls (λ k d. accepted (got k next)) w r (e ∙ cut-out) h) ∙ framed-as

      pub framed-ok : {k : Marks} {d : ℕ} → accepted (got k d) ≡ inside f.id q f.marks → accepted (got k next) ≡ framed_marks inside s at m
      framed-ok {k} e = comes rest first (comes (λ v d. accepted (got v next)) (e ∙ cut-out) refl) ∙ framed-as

-- ---- a custom section whose name was read
module _ (s : List ℕ) (m : Marks) (p : Part) (at : ℕ) (first : counted_at s 0 ≡ accepted (got p at)) (q : List ℕ) (is : q ≡ part_bytes s p)
    {k : Marks} (short : k ≡ with_number m p.from) where
  pub custom-other : same name_word q ≡ false → accepted (got k at) ≡ custom_marks s m
  unfolding custom_marks onward
  custom-other o = let t : same name_word (part_bytes s p) ≡ false = rw (sym is) o in rw (first, t, short)

  pub custom-named : {r : Said (Got Marks)} → same name_word q ≡ true → r ≡ walk_from (subsection_marks s) s at k → r ≡ custom_marks s m
  unfolding custom_marks onward
  custom-named o e =
      let t : same name_word (part_bytes s p) ≡ true = rw (sym is) o in
      rw (first, t) (e ∙ ap (walk_from (subsection_marks s) s at) short)

-- ---- the contents of a section
module _ (id : ℕ) (s : List ℕ) (m : Marks) where
  pub contents-list : (id ≡ 2) ⊎ (id ≡ 7) → {x : Said (Got Marks)} → x ≡ list_marks id s m → x ≡ contents_marks id s m
  unfolding contents_marks
  contents-list (inl e) q = rw e (rw e at q)
  contents-list (inr e) q = rw e (rw e at q)

  pub contents-none : (id ≡ 0 → ⊥) → ((id ≡ 2) ⊎ (id ≡ 7) → ⊥) → accepted (got m 0) ≡ contents_marks id s m
  unfolding contents_marks
  contents-none h k = rw (ne_eqb id 0 h, ne_eqb id 2 (λ e. k (inl e)), ne_eqb id 7 (λ e. k (inr e)))
