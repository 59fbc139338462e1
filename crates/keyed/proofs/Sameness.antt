-- Rows with one key, by what the calls on their cells answer; and room for every row. Assumes nothing.
use mathlib.Core.Path.{◌≡◌, refl, sym, ◌∙◌, ap}
use mathlib.Core.Bool.{Bool, true, false, ◌&&◌}
use mathlib.Core.List.{List, [], ◌∷◌}
use Prim.Native.Nat.{ℕ, ◌+◌, ◌<◌}
use native.Mathlib.Omega.{arith}
use borrow.Author.Tests.{eq-eqb, ne_eqb, eqb-true, lt-leb}
use lib.Dec.{eqb}
use Rattle.std.specs.Cmp.Lexicographic.{pointwise}
use Rattle.refusal.specs.Pick.{both}
use Rattle.text.specs.Find.{same}
use Rattle.text.specs.Order.{cmp_nat, and_then, cmp_bytes}
use Rattle.std.specs.declared.cmp.Ordering.{Ordering}
use Rattle.std.specs.declared.cmp.Ordering.TheVariants.{Less, Equal, Greater}
use Rattle.text.proofs.OrderLaws.{Tri, below, at, above, tri}
use Rattle.text.proofs.Laws.{both_yes, both-no, both_one, both-two}
use Rattle.text.proofs.FindLaws.{same-is}
use Rattle.table.specs.Table.{cell_of, range_of}
use Rattle.sorting.specs.Keys.{row_order, name_of, file_of}
use Rattle.differences.specs.Differences.{ties}
use Rattle.keyed.specs.Keying.{name_in, key_order, same_key, rank_after, holds_all}

-- ---- ties
pub ties-then : (o p : Ordering) → ties (and_then o p) ≡ both (ties o) (ties p)
ties-then Less p = refl
ties-then Equal p = refl
ties-then Greater p = refl

pub ties-nat : (x y : ℕ) → ties (cmp_nat x y) ≡ eqb x y
ties-nat x y = by (tri x y)
  where
    by : Tri x y → ties (cmp_nat x y) ≡ eqb x y
    by (below h e) = rw e (sym (ne_eqb x y (λ q. omega arith)))
    by (at h e) = rw e (sym (eq-eqb x y h))
    by (above h e) = rw e (sym (ne_eqb x y (λ q. omega arith)))

ties-bytes : (s t : List ℕ) → ties (cmp_bytes s t) ≡ same t s
unfolding cmp_bytes same
ties-bytes [] [] = refl
ties-bytes [] (y ∷ t) = refl
ties-bytes (x ∷ s) [] = refl
ties-bytes (x ∷ s) (y ∷ t) = ties-then (cmp_nat x y) (cmp_bytes s t) ∙ rw (ties-nat x y, ties-bytes s t)

-- the test of the library says the same
and-both : (a b : Bool) → (a && b) ≡ both a b
and-both true b = refl
and-both false b = refl

pub equal-is : (s t : List ℕ) → pointwise eqb s t ≡ same t s
unfolding same
equal-is [] [] = refl
equal-is [] (y ∷ t) = refl
equal-is (x ∷ s) [] = refl
equal-is (x ∷ s) (y ∷ t) = and-both (eqb x y) (pointwise eqb s t) ∙ ap (both (eqb x y)) (equal-is s t)

-- ---- two rows
module _ (first second keys : List ℕ) (i j : ℕ) where
  abbrev cell : ℕ → ℕ → ℕ
  cell column r = cell_of keys 6 r column

  abbrev name : ℕ → List ℕ
  name = name_in first second keys

  split : same_key first second keys i j
      ≡ both (eqb (cell 3 i) (cell 3 j)) (both (same (name j) (name i)) (eqb (cell 4 i) (cell 4 j)))
  unfolding same_key key_order row_order name_in
  split =
      ties-then (cmp_nat (cell 3 i) (cell 3 j)) _
      ∙ rw (
        ties-nat (cell 3 i) (cell 3 j),
        ties-then (cmp_bytes (name i) (name j)) (and_then (cmp_nat (cell 4 i) (cell 4 j)) Equal),
        ties-bytes (name i) (name j),
        ties-then (cmp_nat (cell 4 i) (cell 4 j)) Equal,
        ties-nat (cell 4 i) (cell 4 j),
        both_yes (eqb (cell 4 i) (cell 4 j)),
      )

  -- rows of one key have one name
  pub same_names : same_key first second keys i j ≡ true → name_in first second keys i ≡ name_in first second keys j
  same_names h = same-is (name j) (name i) (both_one (same (name j) (name i)) _ (both-two (eqb (cell 3 i) (cell 3 j)) _ (sym split ∙ h)))

  -- and the same numbers
  pub same-majors : same_key first second keys i j ≡ true → cell_of keys 6 i 3 ≡ cell_of keys 6 j 3
  same-majors h = eqb-true (cell 3 i) (cell 3 j) (both_one (eqb (cell 3 i) (cell 3 j)) _ (sym split ∙ h))

  pub same-minors : same_key first second keys i j ≡ true → cell_of keys 6 i 4 ≡ cell_of keys 6 j 4
  same-minors h =
      eqb-true (cell 4 i) (cell 4 j) (both-two (same (name j) (name i)) _ (both-two (eqb (cell 3 i) (cell 3 j)) _ (sym split ∙ h)))

  module _ {a b : ℕ} (ea : a ≡ cell_of keys 6 i 3) (eb : b ≡ cell_of keys 6 j 3) where
    pub before-differ : (a ≡ b → ⊥) → false ≡ same_key first second keys i j
    before-differ d = sym (split ∙ rw (ne_eqb (cell 3 i) (cell 3 j) (λ q. d (ea ∙ q ∙ sym eb))))

    module _ (q : a ≡ b) {c d : ℕ} (ec : c ≡ cell_of keys 6 i 4) (ed : d ≡ cell_of keys 6 j 4) where
      met : eqb (cell 3 i) (cell 3 j) ≡ true
      met = eq-eqb (cell 3 i) (cell 3 j) (sym ea ∙ q ∙ eb)

      pub after-differ : (c ≡ d → ⊥) → false ≡ same_key first second keys i j
      after-differ h =
          sym (split ∙ rw (met, ne_eqb (cell 4 i) (cell 4 j) (λ p. h (ec ∙ p ∙ sym ed))) (both-no (same (name j) (name i))))

      pub names-decide : c ≡ d → {s t : List ℕ} {r : Bool} → s ≡ name_in first second keys i → t ≡ name_in first second keys j
          → r ≡ same t s → r ≡ same_key first second keys i j
      names-decide h {s} {t} es et e =
          sym (split
          ∙ rw (met, eq-eqb (cell 4 i) (cell 4 j) (sym ec ∙ h ∙ ed), ← es, ← et) (both_yes (same t s) ∙ sym e))

-- ---- the name of a row, from its three cells
module _ (first second keys : List ℕ) (i : ℕ) {from len list : ℕ} (f : from ≡ cell_of keys 6 i 1) (l : len ≡ cell_of keys 6 i 2)
    (e : list ≡ cell_of keys 6 i 0) where
  pub name-first : list ≡ 0 → range_of first from len ≡ name_in first second keys i
  unfolding name_in name_of file_of
  name-first z = rw (f, l, eq-eqb _ _ (sym e ∙ z))

  pub name-second : (list ≡ 0 → ⊥) → range_of second from len ≡ name_in first second keys i
  unfolding name_in name_of file_of
  name-second z = rw (f, l, ne_eqb _ _ (λ q. z (e ∙ q)))

-- ---- the rank that comes next
pub rank-kept : {r t : Bool} (x : ℕ) → r ≡ t → r ≡ true → x ≡ rank_after t x
unfolding rank_after
rank-kept x e h = rw (← e, h)

pub rank-next : {r t : Bool} (x : ℕ) → r ≡ t → r ≡ false → x + 1 ≡ rank_after t x
unfolding rank_after
rank-next x e h = rw (← e, h)

-- ---- room
module _ (nb nc a b c : ℕ) where
  pub no-ranks : a < nb + nc → false ≡ holds_all (nb + nc) a b c
  unfolding holds_all
  no-ranks h = rw (lt-leb (nb + nc) a h)
