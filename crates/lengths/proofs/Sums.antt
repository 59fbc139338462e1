-- Sums over a list, over what is sorted or selected of it, and over the rows below a number. Assumes nothing.
use mathlib.Core.Path.{◌≡◌, refl, ap}
use mathlib.Core.Bool.{Bool, true, false}
use mathlib.Core.List.{List, [], ◌∷◌, ◌++◌, map}
use Prim.Native.Nat.{ℕ, zero, suc, ◌+◌, ◌*◌, ◌≤◌, ◌<◌}
use native.Mathlib.Nat.{zero-mul, suc-mul}
use native.Mathlib.Omega.{arith}
use lib.ListN.{length, get_or, length-append}
use Rattle.refusal.specs.Pick.{pick}
use Rattle.std.specs.declared.cmp.Ordering.{Ordering}
use Rattle.std.specs.declared.cmp.Ordering.TheVariants.{Less, Equal, Greater}
use Rattle.sorting.specs.Sort.{place, put_in_order, sort, selected, up_from}
use Rattle.reasons.specs.Reasons.{reason_lines}
use Rattle.conform.specs.Sound.{total}

-- ---- over a list
module _ {E : Type 0} (size : E → ℕ) where
  pub total-append : (l m : List E) → total size (l ++ m) ≡ total size l + total size m
  unfolding total
  total-append [] m = omega arith
  total-append (x ∷ l) m = omega (arith, total-append l m)

  pub total-selected : (p : E → Bool) (l : List E) → total size (selected p l) ≤ total size l
  unfolding total
  total-selected p [] = omega arith
  total-selected p (x ∷ l) = by (p x) (total-selected p l)
    where
      by : (t : Bool) → total size (selected p l) ≤ total size l
          → total size (pick t (x ∷ selected p l) (selected p l)) ≤ size x + total size l
      by true h = omega arith
      by false h = omega arith

  pub total-none : ((x : E) → size x ≡ 0) → (l : List E) → total size l ≡ 0
  unfolding total
  total-none h [] = refl
  total-none h (x ∷ l) = omega (arith, h x, total-none h l)

  module _ (cmp : E → E → Ordering) where
    put-total : (x : E) (l : List E) → total size (put_in_order cmp x l) ≤ size x + total size l
    unfolding total
    put-total x [] = omega arith
    put-total x (y ∷ l) = by (cmp x y) (put-total x l)
      where
        by : (o : Ordering) → total size (put_in_order cmp x l) ≤ size x + total size l
            → total size (place o x y l (put_in_order cmp x l)) ≤ size x + (size y + total size l)
        by Less h = omega arith
        by Equal h = omega arith
        by Greater h = omega arith

    pub total-sort : (l : List E) → total size (sort cmp l) ≤ total size l
    unfolding total
    total-sort [] = omega arith
    total-sort (x ∷ l) = omega (arith, put-total x (sort cmp l), total-sort l)

pub total-map : {A E : Type 0} (f : A → E) (size : E → ℕ) (l : List A) → total size (map f l) ≡ total (λ x. size (f x)) l
unfolding total
total-map f size [] = refl
total-map f size (x ∷ l) = omega (arith, total-map f size l)

-- ---- over the rows below n
unfoldable pub sum_to : (ℕ → ℕ) → ℕ → ℕ
sum_to f zero = 0
sum_to f (suc n) = sum_to f n + f n

pub lines-sum : (line : ℕ → List ℕ) (n : ℕ) → length (reason_lines line n) ≡ sum_to (λ i. length (line i)) n
unfolding reason_lines sum_to
lines-sum line zero = refl
lines-sum line (suc n) = omega (arith, length-append (reason_lines line n) (line n), lines-sum line n)

pub sum-le : (f g : ℕ → ℕ) (n : ℕ) → ((i : ℕ) → i < n → f i ≤ g i) → sum_to f n ≤ sum_to g n
unfolding sum_to
sum-le f g zero h = omega arith
sum-le f g (suc n) h = omega (arith, h n (omega arith), sum-le f g n (λ i k. h i (omega arith)))

-- so many lines of k bytes, and four for each byte of a name
pub sum-lines : (k : ℕ) (g : ℕ → ℕ) (n : ℕ) → sum_to (λ i. k + 4 * g i) n ≡ n * k + 4 * sum_to g n
unfolding sum_to
sum-lines k g zero = omega (arith, zero-mul k)
sum-lines k g (suc n) = omega (arith, suc-mul n k, sum-lines k g n)

sum-front : (f : ℕ → ℕ) (n : ℕ) → sum_to f (suc n) ≡ f 0 + sum_to (λ i. f (suc i)) n
unfolding sum_to
sum-front f zero = omega arith
sum-front f (suc n) = omega (arith, sum-front f n)

-- over the rows by their numbers
pub sum_rows : {E : Type 0} (size : E → ℕ) (d : E) (rows : List E) → sum_to (λ i. size (get_or rows i d)) (length rows) ≡ total size rows
unfolding total sum_to
sum_rows size d [] = refl
sum_rows size d (x ∷ l) = omega (arith, sum-front (λ i. size (get_or (x ∷ l) i d)) (length l), sum_rows size d l)

sum-up : (size : ℕ → ℕ) (i n : ℕ) → total size (up_from i n) ≤ sum_to (λ k. size (i + k)) n
unfolding total sum_to
sum-up size i zero = omega arith
sum-up size i (suc n) =
    let s : sum_to (λ k. size (suc i + k)) n ≤ sum_to (λ k. size (i + suc k)) n =
    sum-le _ _ n (λ k h. let e : suc i + k ≡ i + suc k = omega arith in omega (arith, ap size e)) in
    let z : i + 0 ≡ i = omega arith in
    omega (arith, sum-front (λ k. size (i + k)) n, sum-up size (suc i) n, s, ap size z)

pub sum_below : (size : ℕ → ℕ) (n : ℕ) → total size (up_from 0 n) ≤ sum_to size n
sum_below size n =
    let s : sum_to (λ k. size (0 + k)) n ≤ sum_to size n =
    sum-le _ _ n (λ k h. let e : 0 + k ≡ k = omega arith in omega (arith, ap size e)) in
    omega (arith, sum-up size 0 n, s)
