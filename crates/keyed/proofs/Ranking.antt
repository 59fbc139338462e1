-- Rows of a sorted list, ranked: the ranks go as the keys do. Assumes nothing.
use mathlib.Core.Path.{◌≡◌, refl, sym, ◌∙◌, ap}
use mathlib.Core.Bool.{Bool, true, false}
use mathlib.Core.Logic.{◌⊎◌, inl, inr, ⊎_elim}
use mathlib.Core.List.Memᴰ
use mathlib.Core.List.{List, [], ◌∷◌}
use Prim.Native.Nat.{ℕ, ◌+◌, ◌≤◌, ◌<◌}
use native.Mathlib.Omega.{arith}
use lib.ListN.{length, get_or, set, drop, length-set}
use lib.Seq.{get_or-set_same, get_or-set_other}
use Rattle.text.specs.Order.{cmp_nat, flip}
use Rattle.std.specs.declared.cmp.Ordering.{Ordering}
use Rattle.std.specs.declared.cmp.Ordering.TheVariants.{Less, Equal, Greater}
use Rattle.text.proofs.OrderLaws.{Tri, below, at, above, tri}
use Rattle.text.proofs.Laws.{left-next, left-none}
use Rattle.sorting.specs.Order.{Joins, Lawful}
use Rattle.sorting.specs.Sort.{◌∈◌, Ascending}
use Rattle.sorting.proofs.Orders.{nat-less, nat-same, exact-nat, lawful-nat}
use Rattle.sorting.proofs.Sorts.{tie-self, mem-before}
use Rattle.differences.specs.Differences.{ties}
use Rattle.keyed.specs.Keying.{rank_after, ranked_from, ranked}

-- ---- answers of comparisons
no-greater : {o : Ordering} → o ≡ Less → o ≡ Greater → ⊥
no-greater p q = let z : ◌≡◌ {A = ℕ} 0 1 = cc in omega arith

no_tie : {o : Ordering} → o ≡ Less → o ≡ Equal → ⊥
no_tie p q = let z : ◌≡◌ {A = ℕ} 0 1 = cc in omega arith

tie-no-greater : {o : Ordering} → o ≡ Equal → o ≡ Greater → ⊥
tie-no-greater p q = let z : ◌≡◌ {A = ℕ} 0 1 = cc in omega arith

less-nat : (x y : ℕ) → cmp_nat x y ≡ Less → x < y
less-nat x y q = by (tri x y)
  where
    by : Tri x y → x < y
    by (below h e) = h
    by (at h e) = absurd (no_tie q e)
    by (above h e) = absurd (no-greater q e)

up-nat : (x y : ℕ) → (cmp_nat x y ≡ Greater → ⊥) → x ≤ y
up-nat x y q = by (tri x y)
  where
    by : Tri x y → x ≤ y
    by (below h e) = omega arith
    by (at h e) = omega arith
    by (above h e) = absurd (q e)

-- the rank that comes next stands to the rank before it as the keys do
next-is : (o : Ordering) (r : ℕ) → (o ≡ Greater → ⊥) → cmp_nat r (rank_after (ties o) r) ≡ o
unfolding rank_after
next-is Less r h = nat-less r (r + 1) (omega arith)
next-is Equal r h = nat-same r r refl
next-is Greater r h = absurd (h refl)

-- and so does every later one
later-is : (o b c : Ordering) (r v : ℕ) → Joins o b c → (o ≡ Greater → ⊥) → (b ≡ Greater → ⊥)
    → cmp_nat (rank_after (ties o) r) v ≡ b → cmp_nat r v ≡ c
unfolding rank_after
later-is Less Less c r v j h k e = nat-less r v (omega (arith, less-nat (r + 1) v e)) ∙ sym j
later-is Less Equal c r v j h k e = nat-less r v (omega (arith, exact-nat (r + 1) v e)) ∙ sym j
later-is Less Greater c r v j h k e = absurd (k refl)
later-is Equal b c r v j h k e = e ∙ sym j
later-is Greater b c r v j h k e = absurd (h refl)

module _ (cmp : ℕ → ℕ → Ordering) (laws : Lawful cmp) where
  abbrev same : ℕ → ℕ → Bool
  same i j = ties (cmp i j)

  -- p comes after no element
  abbrev pub Below : ℕ → List ℕ → Type 0
  Below p l = (x : ℕ) → x ∈ l → cmp p x ≡ Greater → ⊥

  -- each element comes after none of those that follow it, and is none of them
  abbrev pub Rising : List ℕ → Type 0
  Rising [] = Unit {0}
  Rising (x ∷ l) = Below x l × (x ∈ l → ⊥) × Rising l

  abbrev pub Fits : List ℕ → List ℕ → Type 0
  Fits l t = (x : ℕ) → x ∈ l → x < length t

  fits-rest : (i s : ℕ) (l t : List ℕ) → Fits (i ∷ l) t → Fits l (set t i s)
  fits-rest i s l t f x m = omega (arith, f x (Memᴰ.tail m), length-set t i s)

  -- rows that are not in the list selected what they have
  untouched : (p r : ℕ) (l t : List ℕ) (x : ℕ) → (x ∈ l → ⊥) → get_or (ranked_from same p r l t) x 0 ≡ get_or t x 0
  unfolding ranked_from
  untouched p r [] t x n = refl
  untouched p r (i ∷ l) t x n =
      let s : ℕ = rank_after (same p i) r in
      untouched i s l (set t i s) x (λ m. n (Memᴰ.tail m))
      ∙ get_or-set_other t i x s 0 (λ e. n (Memᴰ.head e))

  -- the first row's rank
  first-is : (p r i : ℕ) (l t : List ℕ) → (i ∈ l → ⊥) → i < length t
      → get_or (ranked_from same p r (i ∷ l) t) i 0 ≡ rank_after (same p i) r
  unfolding ranked_from
  first-is p r i l t n h =
      let s : ℕ = rank_after (same p i) r in
      untouched i s l (set t i s) i n ∙ get_or-set_same t i s 0 h

  -- a rank stands to that of the row before the list as the keys do
  from_is : (p r : ℕ) (l t : List ℕ) → Below p l → Rising l → Fits l t → (x : ℕ) → x ∈ l
      → cmp_nat r (get_or (ranked_from same p r l t) x 0) ≡ cmp p x
  unfolding ranked_from
  from_is p r [] t b u f x m = absurd (Memᴰ.not-nil m)
  from_is p r (i ∷ l) t b u f x m =
      let s : ℕ = rank_after (same p i) r in
      let hi = b i (Memᴰ.head refl) in
      by s refl (Memᴰ.cases_cons m)
      (λ k. from_is i s l (set t i s) u.0 u.2 (fits-rest i s l t f) x k)
    where
      by : (s : ℕ) → s ≡ rank_after (same p i) r → (x ≡ i) ⊎ (x ∈ l)
          → (x ∈ l → cmp_nat s (get_or (ranked_from same i s l (set t i s)) x 0) ≡ cmp i x)
          → cmp_nat r (get_or (ranked_from same p r (i ∷ l) t) x 0) ≡ cmp p x
      by s e (inl q) ih =
          rw q (ap (cmp_nat r) (first-is p r i l t u.1 (f i (Memᴰ.head refl))) ∙ next-is (cmp p i) r (b i (Memᴰ.head refl)))
      by s e (inr k) ih =
          later-is (cmp p i) (cmp i x) (cmp p x) r _ (laws.join p i x) (b i (Memᴰ.head refl)) (u.0 x k) (rw e at (ih k))

  -- so do any two ranks
  both-are : (p r : ℕ) (l t : List ℕ) → Rising l → Fits l t → (x y : ℕ) → x ∈ l → y ∈ l
      → let u = ranked_from same p r l t in cmp_nat (get_or u x 0) (get_or u y 0) ≡ cmp x y
  unfolding ranked_from
  both-are p r [] t u f x y m k = absurd (Memᴰ.not-nil m)
  both-are p r (i ∷ l) t u f x y m k =
      by (Memᴰ.cases_cons m) (Memᴰ.cases_cons k)
      (λ a b. both-are i (rank_after (same p i) r) l (set t i (rank_after (same p i) r)) u.2
      (fits-rest i (rank_after (same p i) r) l t f) x y a b)
    where
      s : ℕ
      s = rank_after (same p i) r

      at : ℕ → ℕ
      at z = get_or (ranked_from same p r (i ∷ l) t) z 0

      head-is : at i ≡ s
      head-is = first-is p r i l t u.1 (f i (Memᴰ.head refl))

      tail-is : (z : ℕ) → z ∈ l → cmp_nat s (at z) ≡ cmp i z
      tail-is z q = from_is i s l (set t i s) u.0 u.2 (fits-rest i s l t f) z q

      by : (x ≡ i) ⊎ (x ∈ l) → (y ≡ i) ⊎ (y ∈ l)
          → (x ∈ l → y ∈ l
          → cmp_nat (get_or (ranked_from same i s l (set t i s)) x 0) (get_or (ranked_from same i s l (set t i s)) y 0) ≡ cmp x y)
          → cmp_nat (at x) (at y) ≡ cmp x y
      by (inl a) (inl b) ih = rw (a, b) (nat-same (at i) (at i) refl ∙ sym (tie-self cmp laws i))
      by (inl a) (inr b) ih = rw a (ap (λ (v : ℕ). cmp_nat v (at y)) head-is ∙ tail-is y b)
      by (inr a) (inl b) ih =
          rw b
          (ap (cmp_nat (at x)) head-is ∙ lawful-nat.turn s (at x) ∙ ap flip (tail-is x a) ∙ sym (laws.turn i x))
      by (inr a) (inr b) ih = ih a b

  -- ---- from 1 on
  below_self : (i : ℕ) (l : List ℕ) → Below i l → Below i (i ∷ l)
  below_self i l b x m =
      ⊎_elim (λ e q. tie-no-greater (tie-self cmp laws i) (rw e at q)) (λ k. b x k) (Memᴰ.cases_cons m)

  module _ (t : List ℕ) where
    pub ranks-agree : (l : List ℕ) → Rising l → Fits l t → (x y : ℕ) → x ∈ l → y ∈ l
        → let u = ranked same l t in cmp_nat (get_or u x 0) (get_or u y 0) ≡ cmp x y
    unfolding ranked
    ranks-agree [] u f x y m k = absurd (Memᴰ.not-nil m)
    ranks-agree (i ∷ l) u f x y m k = both-are i 1 (i ∷ l) t u f x y m k

    pub ranks-up : (l : List ℕ) → Rising l → Fits l t → (x : ℕ) → x ∈ l → 1 ≤ get_or (ranked same l t) x 0
    unfolding ranked
    ranks-up [] u f x m = absurd (Memᴰ.not-nil m)
    ranks-up (i ∷ l) u f x m =
        let b = below_self i l u.0 in
        up-nat 1 (get_or (ranked same (i ∷ l) t) x 0) (λ q. b x m (sym (from_is i 1 (i ∷ l) t b u f x m) ∙ q))

    pub ranks-other : (l : List ℕ) (x : ℕ) → (x ∈ l → ⊥) → get_or (ranked same l t) x 0 ≡ get_or t x 0
    unfolding ranked
    ranks-other [] x n = refl
    ranks-other (i ∷ l) x n = untouched i 1 (i ∷ l) t x n

-- ---- a list that ascends by a finer order rises
module _ (cmp fine : ℕ → ℕ → Ordering) (laws : Lawful cmp) (finer : Lawful fine)
    (then : (x y : ℕ) → fine x y ≡ Less → cmp x y ≡ Greater → ⊥) where
  pub ascending-rises : (l : List ℕ) → Ascending fine l → Rising cmp laws l
  ascending-rises [] a = tt
  ascending-rises (x ∷ l) a = (
    (λ y m. then x y (mem-before fine finer x y l a.0 m)),
    (λ m. no_tie (mem-before fine finer x x l a.0 m) (tie-self fine finer x)),
    ascending-rises l a.1,
  )

-- ---- how the loop goes
module _ (same : ℕ → ℕ → Bool) (l t : List ℕ) where
  pub ranked-none : length l ≡ 0 → t ≡ ranked same l t
  unfolding ranked
  ranked-none = by l
    where
      by : (m : List ℕ) → length m ≡ 0 → t ≡ ranked same m t
      by [] h = refl
      by (i ∷ m) h = absurd (omega arith)

  pub ranked-start : (length l ≡ 0 → ⊥) → ranked_from same (get_or l 0 0) 1 (drop 0 l) t ≡ ranked same l t
  unfolding ranked
  ranked-start = by l
    where
      by : (m : List ℕ) → (length m ≡ 0 → ⊥) → ranked_from same (get_or m 0 0) 1 (drop 0 m) t ≡ ranked same m t
      by [] h = absurd (h refl)
      by (i ∷ m) h = refl

  pub ranked-step : (p r k : ℕ) {s : ℕ} → k < length l → s ≡ rank_after (same p (get_or l k 0)) r
      → ranked_from same (get_or l k 0) s (drop (k + 1) l) (set t (get_or l k 0) s) ≡ ranked_from same p r (drop k l) t
  unfolding ranked_from
  ranked-step p r k h e = rw (left-next l k h, e)

  pub ranked-end : (p r k : ℕ) → length l ≤ k → ranked_from same p r (drop k l) t ≡ t
  unfolding ranked_from
  ranked-end p r k h = rw (left-none l k h)

-- the next rank is one more at most
pub rank_most : (t : Bool) (r k : ℕ) {s : ℕ} → s ≡ rank_after t r → r ≤ k → s ≤ k + 1
unfolding rank_after
rank_most true r k e h = omega arith
rank_most false r k e h = omega arith
