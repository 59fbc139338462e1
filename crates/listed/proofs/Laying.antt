-- Lists of cells that are put into a buffer one after another, and what is told of it. Assumes nothing.
use Rattle.std.specs.Prelude.{Result, Ok, Err}
use Prim.Native.Nat.{ℕ, ◌+◌, ◌*◌, ◌≤◌, ◌<◌}
use native.Mathlib.Nat.{zero-add}
use native.Mathlib.Omega.{arith}
use mathlib.Core.Path.{◌≡◌, refl, sym, ap, ◌∙◌}
use mathlib.Core.Bool.{Bool, true, false}
use mathlib.Core.List.{List, [], ◌++◌}
use lib.Dec.{leb, ltb}
use lib.ListN.{length, drop, length-append}
use borrow.Author.Tests.{le-leb, lt-ltb, le-ltb}
use Rattle.refusal.specs.Said.{Said, accepted, refused, follow, said_by, spot, Place}
use Rattle.refusal.specs.declared.Refusal.{Refusal}
use Rattle.refusal.specs.declared.Refusal.TheVariants.{NoRoom}
use Rattle.table.specs.Table.{cells, put}
use Rattle.table.proofs.Laws.{length-put}
use Rattle.output.specs.Cells.{cell_bytes, Puts}
use Rattle.output.proofs.CellLaws.{length-bytes, bytes-append}
use Rattle.output.proofs.Putting.{put-none, put-append}
use Rattle.output.specs.Bytes.{room_for, WriterTells, Formed}
use Rattle.listed.specs.Delivered.{housed, Delivers, Lays}

-- the buffer d is y: the bytes of the cells l at its start, and r is the place after them
pub record Begins (d l : List ℕ) (r : ℕ) (y : List ℕ) : Type 0 where
  pub next : r ≡ length l * 8
  pub output : y ≡ put d 0 (cell_bytes l)

module _ (d : List ℕ) where
  pub none_yet : Begins d [] 0 d
  unfolding cells
  none_yet = record { next = refl; output = sym (put-none d 0) }

  -- cells that are put after them
  pub more : (l m : List ℕ) {r s : ℕ} {y z : List ℕ} → Begins d l r y → length (l ++ m) * 8 ≤ length d → Puts m r y s z
      → Begins d (l ++ m) s z
  more l m {r} {s} {y} {z} b h p =
      let long : length y ≡ length d =
      ap length b.output ∙ length-put d (cell_bytes l) 0 (omega (arith, length-bytes l, length-append l m)) in
      let room : leb (r + length m * 8) (length y) ≡ true = le-leb (r + length m * 8) (length y) (omega (arith, length-append l m)) in
      let after : r ≡ 0 + length (cell_bytes l) = omega (arith, length-bytes l) in
      let reach : s ≡ r + length m * 8 = p.next ∙ rw room in
      let written : z ≡ put y r (cell_bytes m) = p.output ∙ rw room in
      record {
        next = omega (arith, length-append l m);
        output = written
            ∙ ap (λ (t : List ℕ). put t r (cell_bytes m)) b.output
            ∙ ap (λ (k : ℕ). put (put d 0 (cell_bytes l)) k (cell_bytes m)) after
            ∙ put-append d 0 (cell_bytes l) (cell_bytes m) (omega (arith, length-bytes l, length-append l m))
            ∙ ap (put d 0) (sym (bytes-append l m));
      }

  -- the whole, where it fits
  pub whole : (l : List ℕ) {r : ℕ} {y : List ℕ} → length l * 8 ≤ length d → Begins d l r y → Formed (cell_bytes l) d (Ok r) y
  unfolding room_for put
  whole l {r} {y} h b =
      let fits : ltb (length d) (length (cell_bytes l)) ≡ false =
      le-ltb (length d) (length (cell_bytes l)) (omega (arith, length-bytes l)) in
      record {
        answer = rw fits (ap accepted (b.next ∙ sym (length-bytes l)));
        output = rw fits (b.output ∙ ap (λ (k : ℕ). cell_bytes l ++ drop k d) (zero-add (length (cell_bytes l))));
      }

  pub no_room : (l : List ℕ) {n : ℕ} → n ≡ length l * 8 → length d < n → Formed (cell_bytes l) d (Err (NoRoom n)) d
  unfolding room_for
  no_room l {n} e h =
      let full : ltb (length d) (length (cell_bytes l)) ≡ true =
      lt-ltb (length d) (length (cell_bytes l)) (omega (arith, length-bytes l)) in
      let needed : n ≡ length (cell_bytes l) = e ∙ sym (length-bytes l) in
      record { answer = rw full (ap (λ (i : ℕ). refused 16 (spot i)) needed); output = rw full }

-- four lists, one after another
module _ (d a b c e : List ℕ) where
  cells-long : length (a ++ b ++ c ++ e) ≡ length a + length b + length c + length e
  cells-long = simp length-append

  pub four-full : {n : ℕ} → n ≡ (length a + length b + length c + length e) * 8 → length d < n
      → Formed (cell_bytes (a ++ b ++ c ++ e)) d (Err (NoRoom n)) d
  four-full q h = no_room d (a ++ b ++ c ++ e) (q ∙ ap (λ (k : ℕ). k * 8) (sym cells-long)) h

  pub four : {p q r s : ℕ} {w x y z : List ℕ} → (length a + length b + length c + length e) * 8 ≤ length d
      → Puts a 0 d p w → Puts b p w q x → Puts c q x r y → Puts e r y s z → Formed (cell_bytes (a ++ b ++ c ++ e)) d (Ok s) z
  four h i j k l =
      let ab : length (a ++ b) ≡ length a + length b = length-append a b in
      let abc : length (a ++ b ++ c) ≡ length a + length b + length c = length-append (a ++ b) c ∙ ap (λ (n : ℕ). n + length c) ab in
      whole d (a ++ b ++ c ++ e) (omega (arith, cells-long))
      (more d (a ++ b ++ c) e
      (more d (a ++ b) c
      (more d a b (more d [] a (none_yet d) (omega arith) i) (omega arith) j) (omega arith) k) (omega (arith, cells-long)) l)

-- what is told of bytes that were written, or not
pub lays : {R : Type 0} (told : Said ℕ → R) {o : Said (List ℕ)} {d y : List ℕ} {w : Result ℕ Refusal} {r : R} → WriterTells o d w y
    → r ≡ told (said_by w) → Lays told o d r y
lays told t e = record { answer-is = e ∙ ap told t.answer; output-is = t.output }

-- what is delivered: a refusal, or a value by its bytes
module _ {A R : Type 0} (bytes : A → List ℕ) (told : Said A → R) {x : Said A} {d : List ℕ} {r : R} where
  pub delivers-none : {n : ℕ} {p : Place} → x ≡ refused n p → r ≡ told (refused n p) → Delivers bytes told x d r d
  unfolding housed follow
  delivers-none e q = record { answer-is = rw (e, q); output-is = rw e }

  pub delivers : (by : Said ℕ → R) (v : A) {y : List ℕ} → x ≡ accepted v → by (accepted (length (bytes v))) ≡ told (accepted v)
      → ((n : ℕ) (p : Place) → by (refused n p) ≡ told (refused n p)) → Lays by (room_for (bytes v) (length d)) d r y
      → Delivers bytes told x d r y
  unfolding housed follow room_for
  delivers by v {y} e good bad l = go (ltb (length d) (length (bytes v))) refl
    where
      go : (t : Bool) → ltb (length d) (length (bytes v)) ≡ t → Delivers bytes told x d r y
      go true q = record { answer-is = l.answer-is ∙ rw (e, q) (bad 16 (spot (length (bytes v)))); output-is = l.output-is ∙ rw (e, q) }
      go false q = record { answer-is = l.answer-is ∙ rw (e, q) good; output-is = l.output-is ∙ rw (e, q) }
