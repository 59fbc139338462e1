-- The order of rows: how the code finds it, and that it is lawful. Assumes nothing.
use mathlib.Core.Path.{◌≡◌, refl, sym, ◌∙◌}
use mathlib.Core.Bool.{Bool, true, false}
use mathlib.Core.List.{List}
use Prim.Native.Nat.{ℕ}
use native.Mathlib.Nat.{le_refl}
use borrow.Author.Tests.{eq-eqb, ne_eqb}
use Rattle.refusal.specs.Pick.{pick}
use Rattle.text.specs.Order.{cmp_nat, and_then, cmp_bytes}
use Rattle.std.specs.declared.cmp.Ordering.{Ordering}
use Rattle.std.specs.declared.cmp.Ordering.TheVariants.{Less, Equal, Greater}
use Rattle.std.specs.Prelude.{not}
use Rattle.table.specs.Table.{range_of}
use Rattle.table.proofs.Cells.{cell-beside}
use Rattle.sorting.specs.Order.{Lawful}
use Rattle.sorting.specs.Keys.{by_name, row_name, column_at, file_of, name_of, row_order, row_marked, unmarked}
use Rattle.sorting.specs.declared.Keys.{Keys}
use Rattle.sorting.proofs.Orders.{lawful-nat, lawful-bytes, lawful-on, lawful_then, lawful-tie, nat-same}

module _ (first second rows : List ℕ) (k : Keys) where
  -- the bytes of a row, from its three cells
  module _ {from len file : ℕ} (i : ℕ) (f : from ≡ column_at first second rows k k.from i)
      (l : len ≡ column_at first second rows k k.len i)
      (e : file ≡ column_at first second rows k k.file i) where
    pub name-first : {bytes : List ℕ} → bytes ≡ first → file ≡ 0 → range_of bytes from len ≡ name_of first second rows k i
    unfolding name_of file_of
    name-first b z = rw (b, f, l, eq-eqb _ _ (sym e ∙ z))

    pub name-second : {bytes : List ℕ} → bytes ≡ second → (file ≡ 0 → ⊥) → range_of bytes from len ≡ name_of first second rows k i
    unfolding name_of file_of
    name-second b z = rw (b, f, l, ne_eqb _ _ (λ q. z (e ∙ q)))

  -- a row that is not marked
  pub unmarked-is : {t : Bool} (i : ℕ) → t ≡ row_marked first second rows k i → not t ≡ unmarked first second rows k i
  unfolding unmarked
  unmarked-is i e = rw e (turned (row_marked first second rows k i))
    where
      turned : (t : Bool) → not t ≡ pick t false true
      turned true = refl
      turned false = refl

  -- a row against what another is sorted by, part by part
  pub key-order : (i j : ℕ) {b d f : ℕ} {t : List ℕ}
      → b ≡ column_at first second rows k k.major j → t ≡ name_of first second rows k j
      → d ≡ column_at first second rows k k.minor j → f ≡ pick k.every j 0
      → and_then (cmp_nat (column_at first second rows k k.major i) b)
      (and_then (cmp_bytes (name_of first second rows k i) t)
      (and_then (cmp_nat (column_at first second rows k k.minor i) d) (cmp_nat (pick k.every i 0) f)))
      ≡ row_order first second rows k i j
  unfolding row_order
  key-order i j pb pt pd pf = rw (pb, pt, pd, pf, last k.every)
    where
      last : (q : Bool) → cmp_nat (pick q i 0) (pick q j 0) ≡ pick q (cmp_nat i j) Equal
      last true = refl
      last false = nat-same 0 0 refl

  pub lawful-rows : Lawful (row_order first second rows k)
  unfolding row_order
  lawful-rows =
      lawful_then (lawful-on lawful-nat (column_at first second rows k k.major))
      (lawful_then (lawful-on lawful-bytes (name_of first second rows k))
      (lawful_then (lawful-on lawful-nat (column_at first second rows k k.minor)) (last k.every)))
    where
      last : (t : Bool) → Lawful {A = ℕ} (λ i j. pick t (cmp_nat i j) Equal)
      last true = lawful-nat
      last false = lawful-tie

-- rows listed by a name alone are compared by the bytes of their ranges
pub names-order : (first second rows : List ℕ) (width from len mark value i j : ℕ)
    → row_order first second rows (by_name width from len mark value) i j
    ≡ cmp_bytes (row_name first rows width from len i) (row_name first rows width from len j)
unfolding row_order name_of file_of
names-order first second rows width from len mark value i j =
    rw (cell-beside rows width i width (le_refl width), cell-beside rows width j width (le_refl width), nat-same 0 0 refl) (tied _)
  where
    tied : (o : Ordering) → and_then o Equal ≡ o
    tied Less = refl
    tied Equal = refl
    tied Greater = refl
