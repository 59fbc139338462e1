-- Where an element goes in a sorted list, by index; and a list shifted up by one. Assumes nothing.
use mathlib.Core.Path.{◌≡◌, refl, sym, ◌∙◌, ap}
use mathlib.Core.List.{List, [], ◌∷◌, ◌++◌, append_assoc}
use Prim.Native.Nat.{ℕ, zero, suc, ◌≤◌, ◌<◌, zero-le, suc-le-suc}
use native.Mathlib.Nat.{le_of_suc-le-suc, not-suc-le-zero}
use native.Mathlib.Omega.{arith}
use lib.ListN.{length, get_or, take, drop, set, get_or-append, take-append-drop}
use lib.Seq.{slice, slice_empty, slice-cons, take-suc, get_or-take, set_at, length-take-le}
use Rattle.std.specs.declared.cmp.Ordering.{Ordering}
use Rattle.std.specs.declared.cmp.Ordering.TheVariants.{Less, Equal, Greater}
use Rattle.sorting.specs.Order.{Lawful}
use Rattle.sorting.specs.Sort.{put_in_order, Before, Ascending}

module _ {A : Type 0} (cmp : A → A → Ordering) (x d : A) where
  -- past p elements that x comes after, and before one that it comes before or the end: x goes in there
  pub put-before : (l : List A) (p : ℕ) → p ≤ length l → ((j : ℕ) → j < p → cmp x (get_or l j d) ≡ Greater)
      → (p < length l → cmp x (get_or l p d) ≡ Less) → put_in_order cmp x l ≡ take p l ++ x ∷ drop p l
  put-before [] zero h b e = refl
  put-before [] (suc p) h b e = absurd (not-suc-le-zero h)
  put-before (y ∷ l) zero h b e = rw (e (suc-le-suc zero-le))
  put-before (y ∷ l) (suc p) h b e =
      rw (b zero (suc-le-suc zero-le))
      (ap (◌∷◌ y)
      (put-before l p (le_of_suc-le-suc h) (λ j i. b (suc j) (suc-le-suc i)) (λ i. e (suc-le-suc i))))

  -- past p elements that x comes after, at one that it ties with: x goes in its place
  pub put-over : (l : List A) (p : ℕ) → p < length l → ((j : ℕ) → j < p → cmp x (get_or l j d) ≡ Greater) → cmp x (get_or l p d) ≡ Equal
      → put_in_order cmp x l ≡ take p l ++ x ∷ drop (suc p) l
  put-over [] p h b e = absurd (not-suc-le-zero h)
  put-over (y ∷ l) zero h b e = rw e
  put-over (y ∷ l) (suc p) h b e =
      rw (b zero (suc-le-suc zero-le)) (ap (◌∷◌ y) (put-over l p (le_of_suc-le-suc h) (λ j i. b (suc j) (suc-le-suc i)) e))

-- the elements from j on up to k moved up by one, the one at j kept
abbrev pub shifted : List ℕ → ℕ → ℕ → List ℕ
shifted l j k = take (suc j) l ++ (slice j k l ++ drop (suc k) l)

module _ (l : List ℕ) (k : ℕ) (room : k < length l) where
  pub shift-start : l ≡ shifted l k k
  shift-start = rw (slice_empty k l) (sym (take-append-drop (suc k) l))

  -- what stands at j and what follows, set
  pub shift-set : (j : ℕ) (v : ℕ) → j ≤ k → set (shifted l j k) j v ≡ take j l ++ v ∷ (slice j k l ++ drop (suc k) l)
  shift-set j v h =
      rw (take-suc l j 0 (omega arith), append_assoc)
      (set_at (take j l) (get_or l j 0) (slice j k l ++ drop (suc k) l) v j (length-take-le j l (omega arith)))

  shift-get : (j i : ℕ) → i ≤ j → j ≤ k → get_or (shifted l j k) i 0 ≡ get_or l i 0
  shift-get j i h g =
      get_or-append (take (suc j) l) (slice j k l ++ drop (suc k) l) 0 i (rw (length-take-le (suc j) l (omega arith)) (omega arith))
      ∙ get_or-take (suc j) l i 0 (omega arith)

  pub shift-step : (j : ℕ) → j < k → set (shifted l (suc j) k) (suc j) (get_or (shifted l (suc j) k) j 0) ≡ shifted l j k
  shift-step j h =
      rw (shift-get (suc j) j (omega arith) h)
      (shift-set (suc j) (get_or l j 0) h ∙ rw (slice-cons j k l 0 h (omega arith)))

-- an ascending list, by index
before-get_d : {A : Type 0} (cmp : A → A → Ordering) (d x : A) (l : List A) → Before cmp x l → (j : ℕ) → j < length l
    → cmp x (get_or l j d) ≡ Less
before-get_d cmp d x [] b j h = absurd (not-suc-le-zero h)
before-get_d cmp d x (y ∷ l) b zero h = b.0
before-get_d cmp d x (y ∷ l) b (suc j) h = before-get_d cmp d x l b.1 j (le_of_suc-le-suc h)

pub ascending-get_d : {A : Type 0} (cmp : A → A → Ordering) (d : A) (l : List A) → Ascending cmp l
    → (i j : ℕ) → i < j → j < length l → cmp (get_or l i d) (get_or l j d) ≡ Less
ascending-get_d cmp d [] a i j h k = absurd (not-suc-le-zero k)
ascending-get_d cmp d (y ∷ l) a i zero h k = absurd (not-suc-le-zero h)
ascending-get_d cmp d (y ∷ l) a zero (suc j) h k = before-get_d cmp d y l a.0 j (le_of_suc-le-suc k)
ascending-get_d cmp d (y ∷ l) a (suc i) (suc j) h k = ascending-get_d cmp d l a.1 i j (le_of_suc-le-suc h) (le_of_suc-le-suc k)

-- what ties with an element comes after all before it
module _ {A : Type 0} (cmp : A → A → Ordering) (laws : Lawful cmp) where
  pub after-eq : (x y z : A) → cmp x y ≡ Equal → cmp z y ≡ Less → cmp x z ≡ Greater
  after-eq x y z h k = rw (h, laws.turn z y, k) at (laws.join x y z)
