-- The search by prints. Assumes nothing.
use Rattle.std.specs.Prelude.{Option, Some}
use Rattle.std.specs.Int.{from_bool}
use mathlib.Core.Path.{◌≡◌, refl, sym, ◌∙◌, ap}
use mathlib.Core.Bool.{Bool, true, false}
use mathlib.Core.List.{List}
use Prim.Native.Nat.{ℕ, ◌+◌, ◌-◌, ◌≤◌, ◌<◌}
use native.Mathlib.Omega.{arith}
use borrow.Author.Tests.{eq-eqb, ne_eqb, ltb-true, ltb-false}
use lib.Dec.{ltb}
use lib.ListN.{get_or}
use Rattle.refusal.specs.Pick.{pick, both}
use Rattle.text.proofs.Laws.{both-no}
use Rattle.table.specs.Table.{cell_of}
use Rattle.sorting.specs.Keys.{row_marked}
use Rattle.differences.specs.Numbers.{some_from}
use Rattle.keyed.specs.Keying.{wanted, same_key, others_of, some_other}
use Rattle.keyed.proofs.Searching.{some-pass}
use Rattle.std.specs.declared.ops.Range.{Range}
use Rattle.keyed.specs.declared.quick.Sought.{Sought}
use Rattle.keyed.specs.Quick.{meets_key, Printed, Unlike, Seeks, found_mark}

module _ (first second keys : List ℕ) (i j : ℕ) where
  pub not-wanted : {m : ℕ} → m ≡ cell_of keys 6 j 5 → (m ≡ 1 → ⊥) → false ≡ meets_key first second keys i j
  unfolding meets_key wanted row_marked
  not-wanted e h = rw (ne_eqb (cell_of keys 6 j 5) 1 (λ q. h (e ∙ q)))

  pub key-decides : {m : ℕ} {r : Bool} → m ≡ cell_of keys 6 j 5 → m ≡ 1 → r ≡ same_key first second keys i j
      → r ≡ meets_key first second keys i j
  unfolding meets_key wanted row_marked
  key-decides e h q = rw (eq-eqb (cell_of keys 6 j 5) 1 (sym e ∙ h)) q

  -- rows of other prints have other keys
  pub prints-differ : (n : ℕ) (prints : List ℕ) → i < n → j < n → Printed first second keys n prints → {p : ℕ} → p ≡ get_or prints i 0
      → (get_or prints j 0 ≡ p → ⊥) → meets_key first second keys i j ≡ false
  unfolding meets_key Printed
  prints-differ n prints l m h e d = by (same_key first second keys i j) refl
    where
      by : (t : Bool) → same_key first second keys i j ≡ t → both (wanted first second keys j) t ≡ false
      by true q = absurd (d (sym (h i j l m q) ∙ sym e))
      by false q = both-no (wanted first second keys j)

-- a run more
pub unlike-join : (prints : List ℕ) (p from j k : ℕ) → Unlike prints p from j → Unlike prints p j k → Unlike prints p from k
unlike-join prints p from j k d f m a b = by (ltb m j) refl
  where
    by : (t : Bool) → ltb m j ≡ t → get_or prints m 0 ≡ p → ⊥
    by true q = d m a (ltb-true m j q)
    by false q = f m (ltb-false m j q) b

-- rows of other prints are passed
pub unlike-pass : (first second keys : List ℕ) (i n from j to : ℕ) (prints : List ℕ) → i < n → from ≤ j → j ≤ to → to ≤ n
    → Printed first second keys n prints → {p : ℕ} → p ≡ get_or prints i 0 → Unlike prints p from j
    → some_from (meets_key first second keys i) from (to - from) ≡ some_from (meets_key first second keys i) j (to - j)
unlike-pass first second keys i n from j to prints l a b m h e d =
    let k : from + (j - from) ≡ j = omega arith in
    some-pass (meets_key first second keys i) from to (j - from) (omega arith)
    (λ q x y. prints-differ first second keys i q n prints l (omega arith) h e (d q x (omega arith)))
    ∙ ap (λ (x : ℕ). some_from (meets_key first second keys i) x (to - x)) k

-- ---- the rows of the other list
from-bool : (t : Bool) → from_bool t ≡ pick t 1 0
from-bool true = refl
from-bool false = refl

pub found-is : (first second keys : List ℕ) (nb n i : ℕ) {o : Range ℕ} {s : Option Sought} {x : Sought} → o ≡ others_of nb n i
    → Seeks (some_from (meets_key first second keys i) o.start (o.end - o.start)) s → s ≡ Some x
    → from_bool x.met ≡ found_mark first second keys nb n i
unfolding found_mark some_other
found-is first second keys nb n i {x = x} e k h =
    let q : x.met ≡ some_from (meets_key first second keys i) (others_of nb n i).start ((others_of nb n i).end - (others_of nb n i).start) =
    rw (e, h) at k in
    from-bool x.met ∙ rw q
