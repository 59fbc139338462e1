-- A sort of row numbers is a sort of the rows. Assumes nothing.
use mathlib.Core.Path.{◌≡◌, refl, sym, ◌∙◌, ap}
use mathlib.Core.Bool.{Bool, true, false}
use mathlib.Core.List.Memᴰ
use mathlib.Core.List.{List, [], ◌∷◌, ◌++◌, map}
use Prim.Native.Nat.{ℕ, zero, suc}
use lib.ListN.{length, get_or}
use Rattle.refusal.specs.Pick.{pick}
use Rattle.std.specs.declared.cmp.Ordering.{Ordering}
use Rattle.sorting.specs.Order.{Lawful, on}
use Rattle.sorting.specs.Sort.{◌∈◌, put_in_order, sort, selected, up_from, rows_at}
use Rattle.sorting.proofs.Sorts.{sort-map, sort-only}

-- ---- a test and a function, a test and two lists
pub keep-map : {A B : Type 0} (f : A → B) (p : B → Bool) (l : List A) → selected p (map f l) ≡ map f (selected (λ x. p (f x)) l)
keep-map f p [] = refl
keep-map f p (x ∷ l) = rw (keep-map f p l) (go (p (f x)))
  where
    go : (t : Bool) → pick t (f x ∷ map f (selected (λ y. p (f y)) l)) (map f (selected (λ y. p (f y)) l))
        ≡ map f (pick t (x ∷ selected (λ y. p (f y)) l) (selected (λ y. p (f y)) l))
    go true = refl
    go false = refl

pub keep_append : {A : Type 0} (p : A → Bool) (l m : List A) → selected p (l ++ m) ≡ selected p l ++ selected p m
keep_append p [] m = refl
keep_append p (x ∷ l) m = rw (keep_append p l m) (go (p x))
  where
    go : (t : Bool) → pick t (x ∷ (selected p l ++ selected p m)) (selected p l ++ selected p m)
        ≡ pick t (x ∷ selected p l) (selected p l) ++ selected p m
    go true = refl
    go false = refl

-- ---- the rows that numbers name
module _ {A : Type 0} (d : A) where
  shift-up : (x : A) (l : List A) (i n : ℕ) → rows_at d (x ∷ l) (up_from (suc i) n) ≡ rows_at d l (up_from i n)
  shift-up x l i zero = refl
  shift-up x l i (suc n) = ap (◌∷◌ (get_or l i d)) (shift-up x l (suc i) n)

  pub all-rows : (l : List A) → rows_at d l (up_from 0 (length l)) ≡ l
  all-rows [] = refl
  all-rows (x ∷ l) = ap (◌∷◌ x) (shift-up x l 0 (length l) ∙ all-rows l)

  -- the numbers of the rows that pass a test, sorted by comparing the rows, name the sorted list of these rows
  pub sort-numbers : (cmp : A → A → Ordering) (p : A → Bool) (l : List A) → let row : ℕ → A = λ i. get_or l i d in
      rows_at d l (sort (on cmp row) (selected (λ i. p (row i)) (up_from 0 (length l)))) ≡ sort cmp (selected p l)
  sort-numbers cmp p l =
      let row : ℕ → A = λ i. get_or l i d in
      sym (sort-map (on cmp row) cmp row (λ x y. refl) (selected (λ i. p (row i)) (up_from 0 (length l))))
      ∙ ap (sort cmp) (sym (keep-map row p (up_from 0 (length l))) ∙ ap (selected p) (all-rows l))

-- ---- two orders that agree on a list sort it alike
module _ {A : Type 0} (c d : A → A → Ordering) where
  put-agree : (x : A) (l : List A) → ((y : A) → y ∈ l → c x y ≡ d x y) → put_in_order c x l ≡ put_in_order d x l
  put-agree x [] h = refl
  put-agree x (y ∷ l) h = rw (h y (Memᴰ.head refl), put-agree x l (λ z m. h z (Memᴰ.tail m)))

  pub sort-agree : Lawful d → (l : List A) → ((x y : A) → x ∈ l → y ∈ l → c x y ≡ d x y) → sort c l ≡ sort d l
  sort-agree laws [] h = refl
  sort-agree laws (x ∷ l) h =
      ap (put_in_order c x) (sort-agree laws l (λ y z i j. h y z (Memᴰ.tail i) (Memᴰ.tail j)))
      ∙ put-agree x (sort d l) (λ y m. h x y (Memᴰ.head refl) (Memᴰ.tail (sort-only d laws y l m)))
