-- Rule 6 by marks: a name whose print is not marked is none of those whose prints are. Assumes nothing.
use Prim.Native.Nat.{ℕ, zero, suc, min, ◌+◌, ◌-◌, ◌*◌, ◌/◌, ◌%◌, ◌≤◌, ◌<◌}
use native.Mathlib.Omega.{arith}
use native.Mathlib.Nat.{lt_of_le_of_lt}
use mathlib.Core.Path.{◌≡◌, refl, sym, ◌∙◌, ap}
use mathlib.Core.Bool.{Bool, true, false}
use mathlib.Core.List.{List, [], ◌∷◌, map}
use lib.Bits.{bit_and, bit_xor, and_le_r}
use lib.Dec.{ltb}
use lib.ListN.{length, get_or, set, drop, length-set}
use lib.Seq.{get_or-set_same}
use borrow.Author.Tests.{lt-ltb, le-ltb, ltb-true, ltb-false}
use Rattle.refusal.specs.Pick.{pick}
use Rattle.refusal.specs.Said.{accepted, refused, got, Place}
use Rattle.refusal.specs.Each.{Each, each_nil, each-cons}
use Rattle.text.specs.Find.{same}
use Rattle.text.proofs.FindLaws.{same-is}
use Rattle.text.proofs.Laws.{left-next, left-none}
use Rattle.table.specs.Table.{cell_of, range_of}
use Rattle.table.specs.Shape.{width}
use Rattle.sorting.specs.Sort.{up_from}
use Rattle.sorting.specs.Keys.{row_name}
use Rattle.strict.specs.Rules.{has, different, names_of}
use Rattle.leb.specs.Reads.{fixed_at}
use Rattle.strict.specs.Quick.{mixed, stirred, four_found, half_at, word_at, together, name_print, Marked, Noted}

-- ---- prints of what is left of some bytes
module _ (p : ℕ) (s : List ℕ) (i : ℕ) where
  pub mix_next : i < length s → mixed p (drop i s) ≡ mixed ((p * 2654435761 + get_or s i 0) % 4294967296) (drop (i + 1) s)
  unfolding mixed
  mix_next h = rw (left-next s i h)

  pub mix-end : length s ≤ i → mixed p (drop i s) ≡ p
  unfolding mixed
  mix-end h = rw (left-none s i h)

-- half a word as it was read, and a number that is none
module _ (s : List ℕ) (at : ℕ) where
  pub half-found : {v d : ℕ} → fixed_at s at ≡ accepted (got v d) → v ≡ half_at s at
  unfolding half_at four_found
  half-found e = rw e

  pub half-none : {n : ℕ} {p : Place} → fixed_at s at ≡ refused n p → 0 ≡ half_at s at
  unfolding half_at four_found
  half-none e = rw e

-- the lesser of two numbers, by a test
pub least : (a b r : ℕ) → r ≡ min a b → r ≡ pick (ltb a b) a b
least a b r e = go (ltb a b) refl
  where
    go : (t : Bool) → ltb a b ≡ t → r ≡ pick t a b
    go true q = omega (arith, e, ltb-true a b q)
    go false q = omega (arith, e, ltb-false a b q)

-- a word of two halves, and what a print is made of
module _ (s : List ℕ) where
  pub word-is : (at : ℕ) {a b r : ℕ} → a ≡ half_at s at → b ≡ half_at s (at + 4) → r ≡ stirred a b → r ≡ word_at s at
  unfolding word_at
  word-is at e f q = rw (q, e, f)

  pub print-short : (spot : ℕ) {all r : ℕ} → length s < 8 → all ≡ mixed (length s) s → r ≡ stirred all (bit_xor all (all / 32768))
      → r ≡ name_print spot s
  unfolding name_print
  print-short spot h e q = rw (lt-ltb (length s) 8 h, q, e)

  pub print-long : (spot : ℕ) {one two three spot1 r : ℕ} → 8 ≤ length s → spot1 ≡ pick (ltb spot (length s - 8)) spot (length s - 8)
      → one ≡ word_at s 0 → two ≡ word_at s spot1 → three ≡ word_at s (length s - 8)
      → r ≡ stirred (bit_xor (bit_xor (bit_xor one (two / 8)) (three / 64)) (length s))
      (bit_xor (bit_xor (bit_xor one (two / 8)) (three / 64)) (length s) / 4294967296)
      → r ≡ name_print spot s
  unfolding name_print together
  print-long spot h m e f g q = rw (le-ltb (length s) 8 h, q, e, f, g, m)

-- ---- marks
in-marks : (a last n : ℕ) → last < n → bit_and a last < n
in-marks a last n h = lt_of_le_of_lt (and_le_r a last) h

module _ (l : List ℕ) (last print : ℕ) (h : last < length l) where
  pub place-1 : bit_and (print / 256) last < length l
  place-1 = in-marks (print / 256) last (length l) h

  pub place-2 : bit_and (print / 16777216) last < length l
  place-2 = in-marks (print / 16777216) last (length l) h

  pub place-3 : bit_and (print / 1099511627776) last < length l
  place-3 = in-marks (print / 1099511627776) last (length l) h

set_keeps : (l : List ℕ) (i j : ℕ) → get_or l j 0 ≡ 1 → get_or (set l i 1) j 0 ≡ 1
set_keeps [] i j e = e
set_keeps (x ∷ l) zero zero e = refl
set_keeps (x ∷ l) zero (suc j) e = e
set_keeps (x ∷ l) (suc i) zero e = e
set_keeps (x ∷ l) (suc i) (suc j) e = set_keeps l i j e

module _ (l : List ℕ) (i j k : ℕ) where
  abbrev thrice : List ℕ
  thrice = set (set (set l i 1) j 1) k 1

  thrice-long : length thrice ≡ length l
  thrice-long = length-set (set (set l i 1) j 1) k 1 ∙ length-set (set l i 1) j 1 ∙ length-set l i 1

  thrice-keeps : (x : ℕ) → get_or l x 0 ≡ 1 → get_or thrice x 0 ≡ 1
  thrice-keeps x e = set_keeps (set (set l i 1) j 1) k x (set_keeps (set l i 1) j x (set_keeps l i x e))

  thrice-first : i < length l → get_or thrice i 0 ≡ 1
  thrice-first h = set_keeps (set (set l i 1) j 1) k i (set_keeps (set l i 1) j i (get_or-set_same l i 1 0 h))

  thrice-second : j < length l → get_or thrice j 0 ≡ 1
  thrice-second h = set_keeps (set (set l i 1) j 1) k j (get_or-set_same (set l i 1) j 1 0 (rw (length-set l i 1) h))

  thrice-third : k < length l → get_or thrice k 0 ≡ 1
  thrice-third h =
      get_or-set_same (set (set l i 1) j 1) k 1 0 (rw (length-set (set l i 1) j 1 ∙ length-set l i 1) h)

pub notes : (l : List ℕ) (last print : ℕ) → last < length l
    → Noted l (thrice l (bit_and (print / 256) last) (bit_and (print / 16777216) last) (bit_and (print / 1099511627776) last)) last print
notes l last print h =
    let a = bit_and (print / 256) last in
    let b = bit_and (print / 16777216) last in
    let c = bit_and (print / 1099511627776) last in
    record {
      as_long = thrice-long l a b c;
      told = (
        thrice-first l a b c (place-1 l last print h),
        thrice-second l a b c (place-2 l last print h),
        thrice-third l a b c (place-3 l last print h),
      );
      kept = λ p s. (thrice-keeps l a b c _ s.0, thrice-keeps l a b c _ s.1, thrice-keeps l a b c _ s.2);
    }

-- ---- names that have a property, and one that has not
each-kept : {P Q : List ℕ → Type 0} → ((x : List ℕ) → P x → Q x) → {l : List (List ℕ)} → Each P l → Each Q l
each-kept f each_nil = each_nil
each-kept f (each-cons {e} p r) = each-cons (f e p) (each-kept f r)

has-not : (P : List ℕ → Type 0) (x : List ℕ) → (P x → ⊥) → (l : List (List ℕ)) → Each P l → has x l ≡ false
unfolding has
has-not P x h [] e = refl
has-not P x h (y ∷ l) (each-cons p e) = go (same x y) refl (has-not P x h l e)
  where
    go : (t : Bool) → same x y ≡ t → has x l ≡ false → pick t true (has x l) ≡ false
    go true q ih = absurd (h (rw (same-is x y q) at p))
    go false q ih = ih

-- ---- the name of row j of table 3, as the code reads it
pub row_named : (file table : List ℕ) (j : ℕ) {from len : ℕ} {name : List ℕ} → name ≡ range_of file from len
    → from ≡ cell_of table (width 3) j 0 → len ≡ cell_of table (width 3) j 1 → name ≡ row_name file table (width 3) 0 1 j
row_named file table j {from} {len} e a b =
    e ∙ ap (λ (x : ℕ). range_of file x len) a ∙ ap (range_of file (cell_of table (width 3) j 0)) b

-- ---- the names from row i on
module _ (file table : List ℕ) (n spot last : ℕ) where
  abbrev name_at : ℕ → List ℕ
  name_at i = row_name file table (width 3) 0 1 i

  abbrev rest_from : ℕ → List (List ℕ)
  rest_from i = map name_at (up_from i (n - i))

  -- they are all different, and their prints are marked
  pub record Looked (i : ℕ) (marks : List ℕ) : Type 0 where
    pub below : i ≤ n
    pub good : different (rest_from i) ≡ true
    pub seen : Each (λ s. Marked marks last (name_print spot s)) (rest_from i)

  rest-none : rest_from n ≡ []
  rest-none = let e : n - n ≡ 0 = omega arith in ap (λ (m : ℕ). map name_at (up_from n m)) e

  rest_more : (i j : ℕ) → j + 1 ≡ i → i ≤ n → rest_from j ≡ name_at j ∷ rest_from i
  rest_more i j e h =
      let d : n - j ≡ suc (n - i) = omega arith in
      let f : suc j ≡ i = omega arith in
      ap (λ (m : ℕ). map name_at (up_from j m)) d ∙ ap (λ (k : ℕ). name_at j ∷ map name_at (up_from k (n - i))) f

  pub look-start : (marks : List ℕ) → Looked n marks
  unfolding different
  look-start marks = record { below = omega arith; good = rw rest-none refl; seen = rw rest-none each_nil }

  -- one row more, whose print was new
  pub look-on : {i j print : ℕ} {name before after : List ℕ} → Looked i before → j + 1 ≡ i → name ≡ name_at j → print ≡ name_print spot name
      → (Marked before last print → ⊥) → Noted before after last print → Looked j after
  unfolding different
  look-on {i} {j} {print} {name} {before} {after} l e is made new noted =
      let p : print ≡ name_print spot (name_at j) = made ∙ ap (name_print spot) is in
      let more = rest_more i j e l.below in
      let none : has (name_at j) (rest_from i) ≡ false =
      has-not (λ s. Marked before last (name_print spot s)) (name_at j) (λ s. new (rw p s)) (rest_from i) l.seen in
      record {
        below = omega (arith, l.below);
        good = rw (more, none) l.good;
        seen = rw more
            (each-cons {e = name_at j} (rw (sym p) noted.told) (each-kept (λ s k. noted.kept (name_print spot s) k) l.seen));
      }

  pub look-end : {i : ℕ} {marks : List ℕ} → Looked i marks → i ≤ 0 → different (names_of file table n) ≡ true
  unfolding names_of
  look-end {i} l h = let e : i ≡ 0 = omega arith in let d : n - 0 ≡ n = omega arith in rw (e, d) at l.good

-- ---- no two names
pub one-differs : (file table : List ℕ) (n : ℕ) → n < 2 → different (names_of file table n) ≡ true
unfolding different has names_of
one-differs file table zero h = refl
one-differs file table (suc zero) h = refl
one-differs file table (suc (suc n)) h = absurd (omega arith)
